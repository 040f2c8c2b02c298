use Rattle.std.proofs.Common.{◌≡◌, ◌++◌}
use Rattle.rebuild_plan.specs.Marks.{no_marks}
use Rattle.rebuild_plan.proofs.marks.unset.Given as goal

abbrev pub invariant-loop-left : goal.invariant-loop-left
invariant-loop-left l = l.marks.items ++ no_marks l.left ≡ no_marks l.count

abbrev pub decreases-loop-left : goal.decreases-loop-left
decreases-loop-left l = l.left
