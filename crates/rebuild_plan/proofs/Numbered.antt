-- Statements that are planned for the things by number.
use Rattle.std.proofs.Common.{◌≡◌, sym, ap, ◌∙◌, ℕ, suc, ◌+◌, ◌<◌, ◌≤◌, List, [], ◌∷◌, ◌++◌, append_assoc, drop, get_or, length, arith}
use Rattle.std.proofs.lemmas.List.{append-nil}
use Rattle.std.proofs.lemmas.Option.{slice_get_past}
use Rattle.object_heap.specs.Chain.{object_at}
use Rattle.page_meaning.specs.Store.{Store}
use Rattle.heap_walker.proofs.Callers.{past_places, place_of_equal}
use Rattle.rebuild_plan.specs.Compact.{Thing, thing_of, things_at}
use Rattle.rebuild_plan.specs.declared.statement.Rebuild.{Rebuild}

-- some and then others
pub then : {X : Type 0} (old p new x y : List X) → p ≡ old ++ x → new ≡ p ++ y → new ≡ old ++ (x ++ y)
then old p new x y first second = second ∙ ap (λ l. l ++ y) first ∙ append_assoc old x y

-- those for one thing and then those for the others
pub next_thing : (all : ℕ → List Thing → List Rebuild) (one : ℕ → Thing → List Rebuild) → ((n : ℕ) (t : Thing) (ts : List Thing) → all n (t ∷ ts) ≡ one n t ++ all (suc n) ts)
    → (s : Store) (things xs : List ℕ) (i d : ℕ) (old new : List Rebuild) → xs ≡ things → i < length things → new ≡ old ++ one i (thing_of s things (object_at s.heap.objects (get_or xs i d)))
    → new ++ all (i + 1) (things_at s things (drop (i + 1) things)) ≡ old ++ all i (things_at s things (drop i things))
next_thing all one opens s things xs i d old new same inside made =
    let here : List Rebuild = one i (thing_of s things (object_at s.heap.objects (get_or xs i d))) in
    let others : List Thing = things_at s things (drop (i + 1) things) in
    let next : i + 1 ≡ suc i = omega arith in
    ap (λ l. l ++ all (i + 1) others) made
    ∙ append_assoc old here (all (i + 1) others)
    ∙ ap (λ n. old ++ (here ++ all n others)) next
    ∙ ap (λ l. old ++ l) (sym (opens i (thing_of s things (object_at s.heap.objects (get_or xs i d))) others))
    ∙ ap (λ l. old ++ all i (things_at s things l)) (sym (place_of_equal things xs i d same inside))

pub no_thing : (all : ℕ → List Thing → List Rebuild) → ((n : ℕ) → all n [] ≡ [])
    → (s : Store) (things : List ℕ) (i : ℕ) (old : List Rebuild) → length things ≤ i → old ≡ old ++ all i (things_at s things (drop i things))
no_thing all none s things i old past =
    sym (ap (λ l. old ++ all i (things_at s things l)) (past_places things i (slice_get_past things i past)) ∙ ap (λ l. old ++ l) (none i) ∙ append-nil old)
