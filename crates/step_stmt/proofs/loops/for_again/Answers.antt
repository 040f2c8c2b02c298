use Rattle.step_stmt.proofs.Looping.{for_last, for_no_last}
use Rattle.step_stmt.proofs.loops.for_again.Goals as goal

pub returns-then-has_part : goal.returns-then-has_part
returns-then-has_part c = for_last c.args.spot c.args.state.now c.args.meter.now c.run_statement.result c.requires c.run_statement.ensures

pub returns-else-has_part : goal.returns-else-has_part
returns-else-has_part c = for_no_last c.args.spot c.args.state.now c.args.meter.now c.for_test.new.meter c.for_test.result c.if-has_part.ensures c.for_test.ensures
