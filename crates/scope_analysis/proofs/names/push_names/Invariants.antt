use Rattle.std.proofs.Common.{◌≡◌, ◌++◌, length}
use Rattle.scope_analysis.proofs.names.push_names.Given as goal

abbrev pub invariant-loop-rest : goal.invariant-loop-rest
invariant-loop-rest l = l.out.items ++ l.rest ≡ l.initial.out.items ++ l.names

abbrev pub decreases-loop-rest : goal.decreases-loop-rest
decreases-loop-rest l = length l.rest
