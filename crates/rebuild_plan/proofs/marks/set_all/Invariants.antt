use Rattle.std.proofs.Common.{Bool, List, length}
use Rattle.rebuild_plan.specs.Marks.{AreSet}
use Rattle.rebuild_plan.proofs.marks.set_all.Given as goal

abbrev pub invariant-loop-rest : goal.invariant-loop-rest
invariant-loop-rest l = (last : List Bool) → AreSet l.marks.items last l.rest → AreSet l.fn.marks.items last l.timers

abbrev pub decreases-loop-rest : goal.decreases-loop-rest
decreases-loop-rest l = length l.rest
