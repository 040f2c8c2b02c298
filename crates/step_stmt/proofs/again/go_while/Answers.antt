use Rattle.step_stmt.proofs.AtTurns.{while_on}
use Rattle.step_stmt.proofs.again.go_while.Goals as goal

pub returns-in-None : goal.returns-in-None
returns-in-None c =
    while_on c.args.spot c.args.turn c.args.end c.loop_end.result c.args.state.now c.args.meter.now c.while_again.new.meter c.while_again.result c.if-turn-eq0.false c.loop_end.ensures c.in-None.is c.while_again.ensures
