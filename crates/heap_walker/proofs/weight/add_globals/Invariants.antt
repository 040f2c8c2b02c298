use Rattle.std.proofs.Common.{◌-◌, drop, length}
use Rattle.object_heap.specs.Chain.{object_at}
use Rattle.page_meaning.specs.Places.{window}
use Rattle.heap_walker.specs.Things.{globals_of, made_globals}
use Rattle.heap_walker.specs.Weight.{Adds, props_load}
use Rattle.heap_walker.specs.declared.weight.Weight.{Weight}
use Rattle.heap_walker.proofs.weight.add_globals.Given as goal

abbrev pub invariant-loop-name : goal.invariant-loop-name
invariant-loop-name l =
    (w : Weight) → Adds l.weight w (props_load (made_globals (drop l.place (object_at l.state.heap.objects window.0).props)))
    → Adds l.fn.weight w (props_load (globals_of l.state))

abbrev pub decreases-loop-name : goal.decreases-loop-name
decreases-loop-name l = length (object_at l.state.heap.objects window.0).props - l.place
