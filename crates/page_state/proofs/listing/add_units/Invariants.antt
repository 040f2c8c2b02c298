use Rattle.std.proofs.Common.{◌≡◌, ◌||◌, ℕ, List, take, map, bytes_eq}
use Rattle.std.specs.List.{list_any}
use Rattle.page_state.proofs.listing.add_units.Given as goal

abbrev pub invariant-loop-name : goal.invariant-loop-name
invariant-loop-name l =
    (x : List ℕ) → list_any (bytes_eq x) l.seen.keys ≡ (list_any (bytes_eq x) l.initial.seen.keys || list_any (bytes_eq x) (take l.name-index (map (λ p. p.1) l.names)))
