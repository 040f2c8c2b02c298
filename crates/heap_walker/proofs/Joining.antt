-- What is seen of lists of links.
use Rattle.std.proofs.Common.{◌≡◌, ◌⊎◌, inl, inr, refl, sym, subst, ◌∙◌, ℕ, ◌≤◌, Bool, true, false, List, [], ◌∷◌, ◌++◌, length, take, nat_eq, arith}
use Rattle.std.proofs.lemmas.Bool.{eq-eqb, eqb-true, or_cases, or_left, or_right}
use Rattle.std.proofs.lemmas.List.{length-append, take-append-le}
use Rattle.std.proofs.lemmas.List.Folds.{list_any-append}
use Rattle.indexmap.specs.IndexSet.{insert_key}
use Rattle.page_meaning.specs.Store.{Store}
use Rattle.heap_walker.specs.Things.{is_in}
use Rattle.object_shapes.specs.Links.{is_thing}
use Rattle.heap_walker.specs.Walking.{joined, with_seen}

-- what is seen of one list and then of another is seen of both
pub joined_both : (s : Store) (seen ks js : List ℕ) → joined s (joined s seen ks) js ≡ joined s seen (ks ++ js)
joined_both s seen [] js = refl
joined_both s seen (k ∷ ks) js = joined_both s (with_seen s seen k) ks js

-- ---- which are seen

here : (k : ℕ) → nat_eq k k ≡ true
here k = eq-eqb k k refl

pub in_next : (q k : ℕ) (ks : List ℕ) → is_in q (k ∷ ks) ≡ true → (q ≡ k) ⊎ (is_in q ks ≡ true)
in_next q k ks h = by (or_cases (nat_eq q k) (is_in q ks) h)
  where
    by : (nat_eq q k ≡ true) ⊎ (is_in q ks ≡ true) → (q ≡ k) ⊎ (is_in q ks ≡ true)
    by (inl same) = inl (eqb-true q k same)
    by (inr more) = inr more

inserted_kept : (q k : ℕ) (ks : List ℕ) → is_in q ks ≡ true → is_in q (insert_key nat_eq ks k) ≡ true
inserted_kept q k ks h = by (is_in k ks) refl
  where
    by : (b : Bool) → is_in k ks ≡ b → is_in q (insert_key nat_eq ks k) ≡ true
    by true there = rw there h
    by false there = rw there (list_any-append (nat_eq q) ks (k ∷ []) ∙ or_left (is_in q ks) (is_in q (k ∷ [])) h)

inserted_gained : (k : ℕ) (ks : List ℕ) → is_in k (insert_key nat_eq ks k) ≡ true
inserted_gained k ks = by (is_in k ks) refl
  where
    by : (b : Bool) → is_in k ks ≡ b → is_in k (insert_key nat_eq ks k) ≡ true
    by true there = rw there there
    by false there = rw there (list_any-append (nat_eq k) ks (k ∷ []) ∙ or_right (is_in k ks) (is_in k (k ∷ [])) (or_left (nat_eq k k) false (here k)))

inserted_from : (q k : ℕ) (ks : List ℕ) → is_in q (insert_key nat_eq ks k) ≡ true → (is_in q ks ≡ true) ⊎ (q ≡ k)
inserted_from q k ks h = by (is_in k ks) refl
  where
    last : (is_in q ks ≡ true) ⊎ (is_in q (k ∷ []) ≡ true) → (is_in q ks ≡ true) ⊎ (q ≡ k)
    last (inl old) = inl old
    last (inr new) = alone (in_next q k [] new)
      where
        alone : (q ≡ k) ⊎ (is_in q [] ≡ true) → (is_in q ks ≡ true) ⊎ (q ≡ k)
        alone (inl same) = inr same
        alone (inr none) = cc none

    by : (b : Bool) → is_in k ks ≡ b → (is_in q ks ≡ true) ⊎ (q ≡ k)
    by true there = inl (rw there at h)
    by false there = last (or_cases (is_in q ks) (is_in q (k ∷ [])) (sym (list_any-append (nat_eq q) ks (k ∷ [])) ∙ rw there at h))

seen_kept : (s : Store) (q k : ℕ) (seen : List ℕ) → is_in q seen ≡ true → is_in q (with_seen s seen k) ≡ true
seen_kept s q k seen h = by (is_thing s k) refl
  where
    by : (b : Bool) → is_thing s k ≡ b → is_in q (with_seen s seen k) ≡ true
    by true thing = rw thing (inserted_kept q k seen h)
    by false thing = rw thing h

seen_gained : (s : Store) (k : ℕ) (seen : List ℕ) → is_thing s k ≡ true → is_in k (with_seen s seen k) ≡ true
seen_gained s k seen thing = rw thing (inserted_gained k seen)

seen_from : (s : Store) (q k : ℕ) (seen : List ℕ) → is_in q (with_seen s seen k) ≡ true → (is_in q seen ≡ true) ⊎ ((q ≡ k) × (is_thing s k ≡ true))
seen_from s q k seen h = by (is_thing s k) refl
  where
    found : is_thing s k ≡ true → (is_in q seen ≡ true) ⊎ (q ≡ k) → (is_in q seen ≡ true) ⊎ ((q ≡ k) × (is_thing s k ≡ true))
    found thing (inl old) = inl old
    found thing (inr same) = inr (same, thing)

    by : (b : Bool) → is_thing s k ≡ b → (is_in q seen ≡ true) ⊎ ((q ≡ k) × (is_thing s k ≡ true))
    by true thing = found thing (inserted_from q k seen (rw thing at h))
    by false thing = inl (rw thing at h)

pub joined_kept : (s : Store) (q : ℕ) (seen ks : List ℕ) → is_in q seen ≡ true → is_in q (joined s seen ks) ≡ true
joined_kept s q seen [] h = h
joined_kept s q seen (k ∷ ks) h = joined_kept s q (with_seen s seen k) ks (seen_kept s q k seen h)

pub joined_gained : (s : Store) (q : ℕ) (seen ks : List ℕ) → is_thing s q ≡ true → is_in q ks ≡ true → is_in q (joined s seen ks) ≡ true
joined_gained s q seen [] thing h = cc h
joined_gained s q seen (k ∷ ks) thing h = by (in_next q k ks h) (λ more. joined_gained s q (with_seen s seen k) ks thing more)
  where
    by : (q ≡ k) ⊎ (is_in q ks ≡ true) → (is_in q ks ≡ true → is_in q (joined s seen (k ∷ ks)) ≡ true) → is_in q (joined s seen (k ∷ ks)) ≡ true
    by (inl same) later =
        joined_kept s q (with_seen s seen k) ks (subst (λ n. is_in n (with_seen s seen k) ≡ true) (sym same) (seen_gained s k seen (subst (λ n. is_thing s n ≡ true) same thing)))
    by (inr more) later = later more

pub joined_from : (s : Store) (q : ℕ) (seen ks : List ℕ) → is_in q (joined s seen ks) ≡ true → (is_in q seen ≡ true) ⊎ ((is_thing s q ≡ true) × (is_in q ks ≡ true))
joined_from s q seen [] h = inl h
joined_from s q seen (k ∷ ks) h = by (joined_from s q (with_seen s seen k) ks h)
  where
    first : (is_in q seen ≡ true) ⊎ ((q ≡ k) × (is_thing s k ≡ true)) → (is_in q seen ≡ true) ⊎ ((is_thing s q ≡ true) × (is_in q (k ∷ ks) ≡ true))
    first (inl old) = inl old
    first (inr new) = inr (subst (λ n. is_thing s n ≡ true) (sym new.0) new.1, or_left (nat_eq q k) (is_in q ks) (eq-eqb q k new.0))

    by : (is_in q (with_seen s seen k) ≡ true) ⊎ ((is_thing s q ≡ true) × (is_in q ks ≡ true)) → (is_in q seen ≡ true) ⊎ ((is_thing s q ≡ true) × (is_in q (k ∷ ks) ≡ true))
    by (inl old) = first (seen_from s q k seen old)
    by (inr new) = inr (new.0, or_right (nat_eq q k) (is_in q ks) new.1)

-- ---- those that were seen keep their places

seen_longer : (s : Store) (k : ℕ) (seen : List ℕ) → length seen ≤ length (with_seen s seen k)
seen_longer s k seen = by (is_thing s k) refl (is_in k seen) refl
  where
    by : (b : Bool) → is_thing s k ≡ b → (c : Bool) → is_in k seen ≡ c → length seen ≤ length (with_seen s seen k)
    by true thing true there = rw (thing, there) (omega arith)
    by true thing false there = rw (thing, there) (omega (arith, length-append seen (k ∷ [])))
    by false thing c there = rw thing (omega arith)

seen_places : (s : Store) (k n : ℕ) (seen : List ℕ) → n ≤ length seen → take n (with_seen s seen k) ≡ take n seen
seen_places s k n seen within = by (is_thing s k) refl (is_in k seen) refl
  where
    by : (b : Bool) → is_thing s k ≡ b → (c : Bool) → is_in k seen ≡ c → take n (with_seen s seen k) ≡ take n seen
    by true thing true there = rw (thing, there) refl
    by true thing false there = rw (thing, there) (take-append-le n seen (k ∷ []) within)
    by false thing c there = rw thing refl

pub joined_places : (s : Store) (n : ℕ) (seen ks : List ℕ) → n ≤ length seen → take n (joined s seen ks) ≡ take n seen
joined_places s n seen [] within = refl
joined_places s n seen (k ∷ ks) within =
    joined_places s n (with_seen s seen k) ks (omega (arith, within, seen_longer s k seen)) ∙ seen_places s k n seen within
