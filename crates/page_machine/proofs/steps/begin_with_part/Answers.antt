use Rattle.step_expr.proofs.Callers.{opens_moved}
use Rattle.page_machine.proofs.steps.begin_with_part.Goals as goal

pub returns-in-Some : goal.returns-in-Some
returns-in-Some c =
    opens_moved c.args.spot c.new-got.result c.in-Some.value c.args.state.now c.go_value.new.state c.args.meter.now c.go_value.result c.requires c.new-got.ensures
    (rw c.part-number.ensures at (rw c.in-Some.is at c.in_ok-value.ensures)) c.go_value.ensures
