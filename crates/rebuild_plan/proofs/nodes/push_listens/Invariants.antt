use Rattle.std.proofs.Common.{◌≡◌, ◌++◌, length}
use Rattle.rebuild_plan.specs.Nodes.{moved_listeners}
use Rattle.rebuild_plan.specs.Plan.{listens}
use Rattle.rebuild_plan.proofs.nodes.push_listens.Given as goal

abbrev pub invariant-loop-rest : goal.invariant-loop-rest
invariant-loop-rest l = l.plan.items ++ listens l.place (moved_listeners l.walked.things.keys l.rest) ≡ l.fn.plan.items ++ listens l.place (moved_listeners l.walked.things.keys l.listeners)

abbrev pub decreases-loop-rest : goal.decreases-loop-rest
decreases-loop-rest l = length l.rest
