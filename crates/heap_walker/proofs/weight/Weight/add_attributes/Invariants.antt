use Rattle.std.proofs.Common.{length}
use Rattle.heap_walker.specs.Weight.{Adds, attributes_load}
use Rattle.heap_walker.specs.declared.weight.Weight.{Weight}
use Rattle.heap_walker.proofs.weight.Weight.add_attributes.Given as goal

abbrev pub invariant-loop-rest : goal.invariant-loop-rest
invariant-loop-rest l = (w : Weight) → Adds l.self w (attributes_load l.rest) → Adds l.fn.self w (attributes_load l.attributes)

abbrev pub decreases-loop-rest : goal.decreases-loop-rest
decreases-loop-rest l = length l.rest
