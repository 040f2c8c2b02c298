use Rattle.std.proofs.Common.{length}
use Rattle.heap_walker.specs.Weight.{Adds, arguments_load}
use Rattle.heap_walker.specs.declared.weight.Weight.{Weight}
use Rattle.heap_walker.proofs.weight.Weight.add_arguments.Given as goal

abbrev pub invariant-loop-rest : goal.invariant-loop-rest
invariant-loop-rest l = (w : Weight) → Adds l.self w (arguments_load l.rest) → Adds l.fn.self w (arguments_load l.args)

abbrev pub decreases-loop-rest : goal.decreases-loop-rest
decreases-loop-rest l = length l.rest
