use Rattle.std.proofs.Common.{◌≡◌, ◌-◌, drop, length}
use Rattle.object_heap.specs.Chain.{object_at}
use Rattle.object_shapes.specs.Links.{props_links}
use Rattle.page_meaning.specs.Places.{window}
use Rattle.heap_walker.specs.Things.{globals_of, made_globals}
use Rattle.heap_walker.specs.Walking.{joined}
use Rattle.heap_walker.proofs.links.see_globals.Given as goal

abbrev pub invariant-loop-name : goal.invariant-loop-name
invariant-loop-name l =
    joined l.state l.seen.keys (props_links (made_globals (drop l.place (object_at l.state.heap.objects window.0).props)))
    ≡ joined l.state l.fn.seen.keys (props_links (globals_of l.state))

abbrev pub decreases-loop-name : goal.decreases-loop-name
decreases-loop-name l = length (object_at l.state.heap.objects window.0).props - l.place
