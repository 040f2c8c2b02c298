use Rattle.step_stmt.proofs.Switching.{case_passes, case_valued}
use Rattle.step_stmt.proofs.cases.go_case.Goals as goal

pub returns-in-Value : goal.returns-in-Value
returns-in-Value c =
    case_valued c.args.frame.spot c.args.frame.value c.in-Value.value c.args.frame.index c.args.frame.testing c.args.end c.args.state.now c.args.meter.now c.case_ended.result c.in-Value.is c.case_ended.ensures

pub returns-in_default : goal.returns-in_default
returns-in_default c =
    rw (c.unbroken.ensures) (case_passes c.args.frame.spot c.args.frame.value c.args.frame.index c.args.frame.testing c.args.end c.args.state.now c.args.meter.now c.in_default.not-Value)
