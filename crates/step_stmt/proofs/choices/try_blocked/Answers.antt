use Rattle.step_stmt.proofs.Choosing.{not_caught}
use Rattle.step_stmt.proofs.choices.try_blocked.Goals as goal

pub returns-in_default : goal.returns-in_default
returns-in_default c =
    rw c.in-Some.is
    (not_caught c.args.spot c.in-Some.bound c.args.end c.args.state.now c.args.meter.now c.run_last-in_default.result c.in_default.not-Thrown c.run_last-in_default.ensures)
