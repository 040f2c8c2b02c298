use Rattle.std.proofs.Common.{arith}
use Rattle.step_stmt.proofs.Switching.{tests_later, tests_over}
use Rattle.step_stmt.proofs.cases.tests_after.Goals as goal

pub returns-then-index-count : goal.returns-then-index-count
returns-then-index-count c = tests_later c.args.spot c.args.value c.args.index _ c.args.state.now c.args.meter.now c.tests_from.result c.requires (omega arith) c.tests_from.ensures

pub returns-else-index-count : goal.returns-else-index-count
returns-else-index-count c =
    tests_over c.args.spot c.args.value c.args.index c.case_count-count.result c.args.state.now c.args.meter.now c.tests_from-else-index-count.result c.requires c.case_count-count.ensures.count (omega arith)
    c.tests_from-else-index-count.ensures
