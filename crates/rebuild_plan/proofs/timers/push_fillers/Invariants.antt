use Rattle.std.proofs.Common.{◌≡◌, ◌++◌}
use Rattle.rebuild_plan.specs.Plan.{fillers}
use Rattle.rebuild_plan.proofs.timers.push_fillers.Given as goal

abbrev pub invariant-loop-left : goal.invariant-loop-left
invariant-loop-left l = l.plan.items ++ fillers l.left ≡ l.fn.plan.items ++ fillers l.count

abbrev pub decreases-loop-left : goal.decreases-loop-left
decreases-loop-left l = l.left
