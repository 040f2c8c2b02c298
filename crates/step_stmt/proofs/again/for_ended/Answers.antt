use Rattle.step_stmt.proofs.AtTurns.{for_on}
use Rattle.step_stmt.proofs.again.for_ended.Goals as goal

pub returns-in-None : goal.returns-in-None
returns-in-None c =
    for_on c.args.spot c.args.end c.loop_end.result c.args.state.now c.args.meter.now c.for_again.new.meter c.for_again.result c.loop_end.ensures c.in-None.is c.for_again.ensures
