use Rattle.std.proofs.Common.{◌≡◌, ◌||◌, ℕ, List, length}
use Rattle.scope_analysis.specs.Names.{is_among}
use Rattle.scope_analysis.proofs.name_tables.name_table.Given as goal

abbrev pub invariant-loop-rest : goal.invariant-loop-rest
invariant-loop-rest l = (x : List ℕ) → (is_among x l.table.keys || is_among x l.rest) ≡ is_among x l.names

abbrev pub decreases-loop-rest : goal.decreases-loop-rest
decreases-loop-rest l = length l.rest
