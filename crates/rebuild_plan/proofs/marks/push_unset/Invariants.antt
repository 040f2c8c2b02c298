use Rattle.std.proofs.Common.{◌≡◌, ◌+◌, ◌++◌, length}
use Rattle.rebuild_plan.specs.Marks.{clear_all}
use Rattle.rebuild_plan.proofs.marks.push_unset.Given as goal

abbrev pub invariant-loop-rest : goal.invariant-loop-rest
invariant-loop-rest l = l.plan.items ++ clear_all (l.id + 1) l.rest ≡ l.fn.plan.items ++ clear_all 1 l.marks

abbrev pub decreases-loop-rest : goal.decreases-loop-rest
decreases-loop-rest l = length l.rest
