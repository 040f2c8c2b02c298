use Rattle.step_stmt.proofs.Looping.{while_known, while_turns}
use Rattle.step_stmt.proofs.loops.while_again.Goals as goal

pub returns-in-Some : goal.returns-in-Some
returns-in-Some c =
    while_known c.args.spot c.in-Some.value c.args.state.now c.args.meter.now c.while_tested.new.meter c.while_tested.result (rw c.part-number.ensures at (rw c.in-Some.is at c.in_ok-value.ensures)) c.while_tested.ensures

pub returns-in-None : goal.returns-in-None
returns-in-None c =
    while_turns c.args.spot c.args.state.now c.args.meter.now c.await_statement.result c.requires (rw c.part-number.ensures at (c.await_statement.ensures c.args.state.now c.args.meter.now))
