use Rattle.std.proofs.Common.{◌-◌}
use Rattle.page_frames.specs.Where.{spot_node}
use Rattle.step_expr.specs.Holding.{Skips}
use Rattle.step_expr.proofs.elements.next_element.Given as goal

abbrev pub invariant-loop-next : goal.invariant-loop-next
invariant-loop-next l = Skips (spot_node l.spot) l.k l.next

abbrev pub decreases-loop-next : goal.decreases-loop-next
decreases-loop-next l = l.count - l.next
