use Rattle.std.proofs.Common.{◌≡◌, ◌++◌, ◌-◌, drop, length}
use Rattle.object_heap.specs.Chain.{object_at}
use Rattle.rebuild_plan.specs.Compact.{moved_props}
use Rattle.rebuild_plan.specs.Plan.{defines}
use Rattle.rebuild_plan.proofs.properties.push_properties.Given as goal

abbrev pub invariant-loop-name : goal.invariant-loop-name
invariant-loop-name l =
    l.plan.items ++ defines l.length l.prototype l.place (moved_props l.walked.things.keys (drop l.index (object_at l.state.heap.objects l.at.0).props))
    ≡ l.fn.plan.items ++ defines l.length l.prototype l.place (moved_props l.walked.things.keys (object_at l.state.heap.objects l.at.0).props)

abbrev pub decreases-loop-name : goal.decreases-loop-name
decreases-loop-name l = length (object_at l.state.heap.objects l.at.0).props - l.index
