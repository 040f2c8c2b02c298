use Rattle.std.proofs.Common.{◌≡◌, ◌++◌, List, filter, length}
use Rattle.scope_analysis.specs.UseTables.{table_of}
use Rattle.scope_analysis.specs.Uses.{Use, is_captured}
use Rattle.instrumenter.proofs.names.push_captured.Given as goal

abbrev pub invariant-loop-rest : goal.invariant-loop-rest
invariant-loop-rest l =
    (us : List Use) → l.uses ≡ table_of us
    → l.out.items ++ filter (λ x. is_captured x us) l.rest ≡ l.initial.out.items ++ filter (λ x. is_captured x us) l.names

abbrev pub decreases-loop-rest : goal.decreases-loop-rest
decreases-loop-rest l = length l.rest
