use Rattle.std.proofs.Common.{◌≡◌, ◌++◌, length}
use Rattle.rebuild_plan.specs.Plan.{attributes}
use Rattle.rebuild_plan.proofs.nodes.push_attributes.Given as goal

abbrev pub invariant-loop-rest : goal.invariant-loop-rest
invariant-loop-rest l = l.plan.items ++ attributes l.place l.rest ≡ l.fn.plan.items ++ attributes l.place l.attributes

abbrev pub decreases-loop-rest : goal.decreases-loop-rest
decreases-loop-rest l = length l.rest
