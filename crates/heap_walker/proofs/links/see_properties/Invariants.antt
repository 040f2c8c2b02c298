use Rattle.std.proofs.Common.{◌≡◌, ◌-◌, drop, length}
use Rattle.object_heap.specs.Chain.{object_at}
use Rattle.object_shapes.specs.Links.{props_links}
use Rattle.heap_walker.specs.Walking.{joined}
use Rattle.heap_walker.proofs.links.see_properties.Given as goal

abbrev pub invariant-loop-property : goal.invariant-loop-property
invariant-loop-property l =
    joined l.state l.seen.keys (props_links (drop l.place (object_at l.state.heap.objects l.at.0).props))
    ≡ joined l.state l.fn.seen.keys (props_links (object_at l.state.heap.objects l.at.0).props)

abbrev pub decreases-loop-property : goal.decreases-loop-property
decreases-loop-property l = length (object_at l.state.heap.objects l.at.0).props - l.place
