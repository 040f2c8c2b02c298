use Rattle.std.proofs.Common.{◌≡◌, ◌++◌, length}
use Rattle.page_meaning.specs.Functions as spec
use Rattle.page_state.proofs.entry.with_arguments.Given as goal

abbrev pub invariant-loop-rest : goal.invariant-loop-rest
invariant-loop-rest l = l.names.items ++ spec.with_arguments l.rest l.given ≡ spec.with_arguments l.formals l.arguments

abbrev pub decreases-loop-rest : goal.decreases-loop-rest
decreases-loop-rest l = length l.rest
