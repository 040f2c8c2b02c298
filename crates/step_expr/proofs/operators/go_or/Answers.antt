use Rattle.std.proofs.Common.{sym}
use Rattle.step_expr.proofs.Moving.{or_left, or_right}
use Rattle.step_expr.proofs.operators.go_or.Goals as goal

pub returns-then-is_true : goal.returns-then-is_true
returns-then-is_true c = or_left c.args.spot.now c.args.value c.args.state.now c.args.meter.now (sym c.if-is_true.ensures)

pub returns-else-is_true : goal.returns-else-is_true
returns-else-is_true c = or_right c.args.spot.now c.args.value c.args.state.now c.args.meter.now c.enter_part.result (sym c.if-is_true.ensures) c.enter_part.ensures
