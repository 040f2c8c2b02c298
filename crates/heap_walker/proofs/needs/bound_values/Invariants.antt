use Rattle.std.proofs.Common.{◌≡◌, ◌++◌, length}
use Rattle.heap_walker.specs.Things.{bound_values}
use Rattle.heap_walker.proofs.needs.bound_values.Given as goal

abbrev pub invariant-loop-rest : goal.invariant-loop-rest
invariant-loop-rest l = l.needs ++ bound_values l.state l.env l.rest ≡ bound_values l.state l.env l.names

abbrev pub decreases-loop-rest : goal.decreases-loop-rest
decreases-loop-rest l = length l.rest
