use Rattle.std.proofs.Common.{◌≡◌, ℕ, Bool, List, bytes_eq}
use Rattle.indexmap.specs.IndexSet.{contains}
use Rattle.scope_analysis.specs.UseTables.{joined, left_by}
use Rattle.scope_analysis.proofs.use_table.note_left.Given as goal

abbrev pub invariant-loop-name : goal.invariant-loop-name
invariant-loop-name l =
    (declares : List ℕ → Bool) → ((x : List ℕ) → contains bytes_eq l.declared x ≡ declares x)
    → joined l.out (left_by l.is_function declares l.name-iterator) ≡ joined l.initial.out (left_by l.is_function declares l.inner)
