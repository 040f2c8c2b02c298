use Rattle.step_stmt.proofs.Looping.{for_untested}
use Rattle.step_stmt.proofs.loops.for_test.Goals as goal

pub returns-else-has_part : goal.returns-else-has_part
returns-else-has_part c = for_untested c.args.spot c.args.state.now c.args.meter.now c.for_tested.new.meter c.for_tested.result c.if-has_part.ensures c.for_tested.ensures
