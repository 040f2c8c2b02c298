use Rattle.std.proofs.Common.{sym}
use Rattle.step_expr.proofs.Moving.{chosen_no, chosen_yes}
use Rattle.step_expr.proofs.operators.go_conditional.Goals as goal

pub returns-then-is_true : goal.returns-then-is_true
returns-then-is_true c = chosen_yes c.args.spot.now c.args.value.now c.args.state.now c.args.meter.now c.enter_part.result (sym c.if-is_true.ensures) c.enter_part.ensures

pub returns-else-is_true : goal.returns-else-is_true
returns-else-is_true c =
    chosen_no c.args.spot.now c.args.value.now c.args.state.now c.args.meter.now c.enter_part-else-is_true.result (sym c.if-is_true.ensures) c.enter_part-else-is_true.ensures
