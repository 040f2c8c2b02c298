use Rattle.step_stmt.proofs.Switching.{test_other, test_same}
use Rattle.step_stmt.proofs.cases.test_ended.Goals as goal

pub returns-then-same : goal.returns-then-same
returns-then-same c =
    test_same c.args.spot c.args.value c.args.tested.now c.args.index c.args.state.now c.args.meter.now c.through.result c.requires c.if-same.ensures (c.through.ensures c.args.state.now)

pub returns-else-same : goal.returns-else-same
returns-else-same c =
    test_other c.args.spot c.args.value c.args.tested.now c.args.index c.args.state.now c.args.meter.now c.tests_after.result c.if-same.ensures c.tests_after.ensures
