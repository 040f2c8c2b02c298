-- No script changes a built-in object.
use Rattle.std.proofs.Common.{◌≡◌, refl, ap, ◌∙◌, ℕ, ◌<◌, Bool, true, false, List, None}
use Rattle.std.proofs.lemmas.Bool.{and_parts, ltb-true}
use Rattle.object_heap.specs.Chain.{object_at}
use Rattle.object_heap.specs.Object.{Object}
use Rattle.object_shapes.specs.Shapes.{IsShaped, built_in_at}
use Rattle.object_shapes.proofs.Callers.{built_in_closed}
use Rattle.page_meaning.specs.Places.{built_in_count, window}
use Rattle.page_meaning.specs.Store.{Store}
use Rattle.rebuild_plan.specs.Changes.{changes_of, is_built_in_place}
use Rattle.rebuild_plan.specs.Compact.{compact}

-- where each is as it was made
pub none_changed : (s : Store) (things : List ℕ) → ((k : ℕ) → 0 < k → k < built_in_count → object_at s.heap.objects k ≡ built_in_at k) → (k : ℕ)
    → changes_of s things k ≡ None
none_changed s things same k = by (is_built_in_place k) refl
  where
    closed : (0 < k) → (k < built_in_count) → (object_at s.heap.objects k).closed ≡ true
    closed past low = ap (λ (o : Object). o.closed) (same k past low) ∙ built_in_closed k past

    by : (b : Bool) → is_built_in_place k ≡ b → changes_of s things k ≡ None
    by true here =
        let both = and_parts _ _ here in
        rw (here, closed (ltb-true window.0 k both.0) (ltb-true k built_in_count both.1)) refl
    by false other = rw other refl

-- so nothing of them is saved of a page with its shapes
pub none_changed_at_rest : (s : Store) → IsShaped s → (things : List ℕ) (k : ℕ) → (compact s things).changes k ≡ None
none_changed_at_rest s shaped things k = none_changed s things shaped.built_ins k
