use Rattle.std.proofs.Common.{◌≡◌, length}
use Rattle.whole_ops.specs.Order.{text_less}
use Rattle.whole_ops.proofs.order.units_less.Given as goal

abbrev pub invariant-loop-right : goal.invariant-loop-right
invariant-loop-right l = text_less l.left l.right ≡ text_less l.a l.b

abbrev pub decreases-loop-right : goal.decreases-loop-right
decreases-loop-right l = length l.right
