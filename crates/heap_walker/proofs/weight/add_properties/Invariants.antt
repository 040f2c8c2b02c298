use Rattle.std.proofs.Common.{◌-◌, drop, length}
use Rattle.object_heap.specs.Chain.{object_at}
use Rattle.heap_walker.specs.Weight.{Adds, props_load, written}
use Rattle.heap_walker.specs.declared.weight.Weight.{Weight}
use Rattle.heap_walker.proofs.weight.add_properties.Given as goal

abbrev pub invariant-loop-name : goal.invariant-loop-name
invariant-loop-name l =
    (w : Weight) → Adds l.weight w (props_load (written l.made (drop l.place (object_at l.state.heap.objects l.at.0).props)))
    → Adds l.fn.weight w (props_load (written l.made (object_at l.state.heap.objects l.at.0).props))

abbrev pub decreases-loop-name : goal.decreases-loop-name
decreases-loop-name l = length (object_at l.state.heap.objects l.at.0).props - l.place
