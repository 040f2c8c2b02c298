-- What holds of walks.
use Rattle.std.specs.Prelude.{◌≡◌, ℕ, List}
use Rattle.page_meaning.specs.Store.{Store}
use Rattle.heap_walker.specs.Things.{IsWalk}

-- there is one walk
abbrev pub WalksAreSame : Type 0
WalksAreSame = (s : Store) (ks js : List ℕ) → IsWalk s ks → IsWalk s js → ks ≡ js
