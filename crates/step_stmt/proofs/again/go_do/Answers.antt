use Rattle.step_stmt.proofs.AtTurns.{do_on}
use Rattle.step_stmt.proofs.again.go_do.Goals as goal

pub returns-in-None : goal.returns-in-None
returns-in-None c =
    do_on c.args.spot c.args.turn c.args.end c.loop_end.result c.args.state.now c.args.meter.now c.do_again.new.meter c.do_again.result c.if-turn-eq0.true c.loop_end.ensures c.in-None.is c.do_again.ensures
