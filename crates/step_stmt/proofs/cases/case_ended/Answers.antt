use Rattle.std.proofs.Common.{◌∙◌}
use Rattle.step_stmt.proofs.Switching.{case_bodied, case_tested, no_switch}
use Rattle.step_stmt.proofs.cases.case_ended.Goals as goal

pub returns-then-testing : goal.returns-then-testing
returns-then-testing c =
    case_tested c.args.frame.spot c.args.frame.value c.args.tested.now c.args.frame.index c.args.frame.testing c.args.state.now c.args.meter.now c.test_ended.result c.if-testing.true c.test_ended.ensures

pub returns-else-testing : goal.returns-else-testing
returns-else-testing c =
    case_bodied c.args.frame.spot c.args.frame.value c.args.tested.now c.args.frame.index c.args.frame.testing c.args.state.now c.args.meter.now c.body_ended.result c.if-testing.false (c.body_ended.ensures c.args.state.now)

pub returns-in_default : goal.returns-in_default
returns-in_default c =
    rw (c.nothing.ensures)
    (no_switch c.args.frame.spot c.args.frame.value c.args.tested.now c.args.frame.index c.args.frame.testing c.args.state.now c.args.meter.now (λ e. c.in_default.not-Switch (c.kind.ensures ∙ e)))
