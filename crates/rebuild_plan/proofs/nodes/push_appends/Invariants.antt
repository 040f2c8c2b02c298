use Rattle.std.proofs.Common.{◌≡◌, ◌++◌, length}
use Rattle.rebuild_plan.specs.Nodes.{moved_nodes}
use Rattle.rebuild_plan.specs.Plan.{appends}
use Rattle.rebuild_plan.proofs.nodes.push_appends.Given as goal

abbrev pub invariant-loop-rest : goal.invariant-loop-rest
invariant-loop-rest l = l.plan.items ++ appends l.place (moved_nodes l.walked.things.keys l.state.host.objects l.rest) ≡ l.fn.plan.items ++ appends l.place (moved_nodes l.walked.things.keys l.state.host.objects l.children)

abbrev pub decreases-loop-rest : goal.decreases-loop-rest
decreases-loop-rest l = length l.rest
