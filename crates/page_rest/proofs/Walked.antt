-- Every page has a walk: what it reaches is found in rounds, each of which moves things that are referred to from those that are left to those found.
use Rattle.std.proofs.Common.{◌≡◌, ◌⊎◌, inl, inr, refl, sym, ap, ◌∙◌, ℕ, zero, suc, ◌+◌, ◌≤◌, ◌<◌, Bool, true, false, not, ◌&&◌, ◌||◌, nat_eq, List, [], ◌∷◌, ◌++◌, length, filter, get_or, arith}
use Rattle.std.proofs.lemmas.Bool.{and_parts, eq-eqb, eqb-true, ltb-true, or_cases, or_left, or_right}
use Rattle.std.proofs.lemmas.List.Filters.{length-filter_both}
use Rattle.std.proofs.lemmas.List.Folds.{list_any-append, list_any_at}
use Rattle.std.proofs.lemmas.List.FromFn.{get_or-range_with_len, length-range_with_len}
use Rattle.std.proofs.lemmas.List.Kept.{IsStrictlyIncreasing-filter}
use Rattle.std.proofs.lemmas.Map.Views.{any-filter_same}
use Rattle.std.specs.List.{list_any, range_with_len}
use Rattle.std.specs.List.Sorted.{IsStrictlyIncreasing}
use Rattle.heap_walker.proofs.Callers.{thing_of}
use Rattle.heap_walker.specs.Things.{Reach, is_in, link, links, root, roots}
use Rattle.heap_walker.specs.Walking.{IsAll}
use Rattle.object_shapes.specs.Links.{is_thing}
use Rattle.page_meaning.specs.Store.{Store}
use Rattle.page_rest.specs.Laws.{HasWalk}

-- ---- lists of numbers

counting_rises : (a n : ℕ) → IsStrictlyIncreasing (range_with_len a n)
counting_rises a n k h =
    let inside : k + 1 < n = omega (arith, h, length-range_with_len a n) in
    omega (arith, get_or-range_with_len a n k 0 (omega (arith, inside)), get_or-range_with_len a n (k + 1) 0 inside)

counted : (n k : ℕ) → k < n → is_in k (range_with_len 0 n) ≡ true
counted n k inside =
    let same : k ≡ get_or (range_with_len 0 n) k 0 = omega (arith, get_or-range_with_len 0 n k 0 inside) in
    list_any_at (nat_eq k) (range_with_len 0 n) k 0 (omega (arith, inside, length-range_with_len 0 n)) (eq-eqb k (get_or (range_with_len 0 n) k 0) same)

kept : (p : ℕ → Bool) (k : ℕ) (ks : List ℕ) → is_in k (filter p ks) ≡ (p k && is_in k ks)
kept p k ks = any-filter_same (nat_eq k) p (p k) (λ j same. ap p (sym (eqb-true k j same))) ks

-- ---- a round

-- a thing that the page begins from, or that one of those found refers to
abbrev is_next : Store → List ℕ → ℕ → Bool
is_next s found k = is_thing s k && (is_in k (roots s) || list_any (λ j. is_in k (links s j)) found)

-- those found can be reached, and each thing is found or left
record Splits (s : Store) (found left : List ℕ) : Type 0 where
  sound : (k : ℕ) → is_in k found ≡ true → Reach s k
  whole : (k : ℕ) → is_thing s k ≡ true → (is_in k found ≡ true) ⊎ (is_in k left ≡ true)

linked : (s : Store) (k : ℕ) (found : List ℕ) → ((j : ℕ) → is_in j found ≡ true → Reach s j) → is_thing s k ≡ true → list_any (λ j. is_in k (links s j)) found ≡ true → Reach s k
linked s k [] sound thing h = cc h
linked s k (j ∷ js) sound thing h =
    by (or_cases (is_in k (links s j)) (list_any (λ i. is_in k (links s i)) js) h)
    (λ more. linked s k js (λ i there. sound i (or_right (nat_eq i j) (is_in i js) there)) thing more)
  where
    by : (is_in k (links s j) ≡ true) ⊎ (list_any (λ i. is_in k (links s i)) js ≡ true) → (list_any (λ i. is_in k (links s i)) js ≡ true → Reach s k) → Reach s k
    by (inl one) later = link (sound j (or_left (nat_eq j j) (is_in j js) (eq-eqb j j refl))) thing one
    by (inr more) later = later more

linked_from : (s : Store) (j k : ℕ) (found : List ℕ) → is_in j found ≡ true → is_in k (links s j) ≡ true → list_any (λ i. is_in k (links s i)) found ≡ true
linked_from s j k [] there h = cc there
linked_from s j k (i ∷ is) there h = by (or_cases (nat_eq j i) (is_in j is) there) (λ more. linked_from s j k is more h)
  where
    by : (nat_eq j i ≡ true) ⊎ (is_in j is ≡ true) → (is_in j is ≡ true → list_any (λ m. is_in k (links s m)) is ≡ true) → list_any (λ m. is_in k (links s m)) (i ∷ is) ≡ true
    by (inl same) later = or_left _ _ (ap (λ m. is_in k (links s m)) (sym (eqb-true j i same)) ∙ h)
    by (inr more) later = or_right (is_in k (links s i)) _ (later more)

next_reached : (s : Store) (found left : List ℕ) → Splits s found left → (k : ℕ) → is_next s found k ≡ true → Reach s k
next_reached s found left parts k h =
    let at : (is_thing s k ≡ true) × ((is_in k (roots s) || list_any (λ j. is_in k (links s j)) found) ≡ true) = and_parts _ _ h in
    by at.0 (or_cases (is_in k (roots s)) (list_any (λ j. is_in k (links s j)) found) at.1)
  where
    by : is_thing s k ≡ true → (is_in k (roots s) ≡ true) ⊎ (list_any (λ j. is_in k (links s j)) found ≡ true) → Reach s k
    by thing (inl begun) = root thing begun
    by thing (inr more) = linked s k found parts.sound thing more

goes_on : (s : Store) (found left : List ℕ) → Splits s found left → Splits s (filter (is_next s found) left ++ found) (filter (λ k. not (is_next s found k)) left)
goes_on s found left parts = record {
  sound = λ k h. reached k (or_cases (is_in k fresh) (is_in k found) (sym (list_any-append (nat_eq k) fresh found) ∙ h));
  whole = λ k thing. stays k (parts.whole k thing) (is_next s found k) refl;
}
  where
    fresh : List ℕ
    fresh = filter (is_next s found) left

    reached : (k : ℕ) → (is_in k fresh ≡ true) ⊎ (is_in k found ≡ true) → Reach s k
    reached k (inl new) = next_reached s found left parts k (and_parts _ _ (sym (kept (is_next s found) k left) ∙ new)).0
    reached k (inr old) = parts.sound k old

    stays :
        (k : ℕ) → (is_in k found ≡ true) ⊎ (is_in k left ≡ true) → (b : Bool) → is_next s found k ≡ b
        → (is_in k (fresh ++ found) ≡ true) ⊎ (is_in k (filter (λ j. not (is_next s found j)) left) ≡ true)
    stays k (inl old) b e = inl (list_any-append (nat_eq k) fresh found ∙ or_right _ _ old)
    stays k (inr there) true e =
        inl (list_any-append (nat_eq k) fresh found ∙ or_left _ _ (kept (is_next s found) k left ∙ rw (e, there) refl))
    stays k (inr there) false e = inr (kept (λ j. not (is_next s found j)) k left ∙ rw (e, there) refl)

-- where no more is next, all is found
ends : (s : Store) (found left : List ℕ) → Splits s found left → filter (is_next s found) left ≡ [] → IsAll s found
ends s found left parts none = record { sound = parts.sound; complete = reached }
  where
    by : (k : ℕ) → (is_in k found ≡ true) ⊎ (is_in k left ≡ true) → is_next s found k ≡ true → is_in k found ≡ true
    by k (inl there) e = there
    by k (inr there) e =
        let here : is_in k (filter (is_next s found) left) ≡ true = kept (is_next s found) k left ∙ rw (e, there) refl in
        cc (sym (ap (is_in k) none) ∙ here)

    reached : (k : ℕ) → Reach s k → is_in k found ≡ true
    reached k (root thing begun) = by k (parts.whole k thing) (rw (thing, begun) refl)
    reached k (link {j = j} from thing more) =
        by k (parts.whole k thing) (rw thing (or_right (is_in k (roots s)) _ (linked_from s j k found (reached j from) more)))

-- ---- all rounds

record Closed (s : Store) : Type 0 where
  found : List ℕ
  all : IsAll s found

round : (s : Store) (found left : List ℕ) → Splits s found left → (fresh : List ℕ) → filter (is_next s found) left ≡ fresh → (0 < length fresh → Closed s) → Closed s
round s found left parts [] none later = record { found = found; all = ends s found left parts none }
round s found left parts (k ∷ ks) some later = later (omega arith)

closed : (s : Store) (n : ℕ) (found left : List ℕ) → length left ≤ n → Splits s found left → Closed s
closed s zero found left fits parts =
    let both = length-filter_both (is_next s found) (λ k. not (is_next s found k)) (λ k. refl) left in
    round s found left parts (filter (is_next s found) left) refl (λ some. absurd (omega (arith, some, fits, both)))
closed s (suc n) found left fits parts =
    let both = length-filter_both (is_next s found) (λ k. not (is_next s found k)) (λ k. refl) left in
    round s found left parts (filter (is_next s found) left) refl
    (λ some. closed s n (filter (is_next s found) left ++ found) (filter (λ k. not (is_next s found k)) left) (omega (arith, some, fits, both)) (goes_on s found left parts))

-- ---- the walk

below : (s : Store) (k : ℕ) → is_thing s k ≡ true → k < length s.heap.objects
below s k thing = ltb-true k (length s.heap.objects) (and_parts _ _ thing).1

begins : (s : Store) → Splits s [] (range_with_len 0 (length s.heap.objects))
begins s = record {
  sound = λ k h. cc h;
  whole = λ k thing. inr (counted (length s.heap.objects) k (below s k thing));
}

-- those found, by age
in_order : (s : Store) (found : List ℕ) → IsAll s found → HasWalk s
in_order s found all = record {
  things = filter (λ k. is_in k found) places;
  walk = record {
    rising = IsStrictlyIncreasing-filter (λ k. is_in k found) places (counting_rises 0 (length s.heap.objects));
    sound = λ k h. all.sound k (and_parts _ _ (sym (kept (λ j. is_in j found) k places) ∙ h)).0;
    complete = λ k reach. kept (λ j. is_in j found) k places ∙ rw (all.complete k reach, counted (length s.heap.objects) k (below s k (thing_of s k reach))) refl;
  };
}
  where
    places : List ℕ
    places = range_with_len 0 (length s.heap.objects)

pub pages_have_walks : (s : Store) → HasWalk s
pages_have_walks s =
    let n : ℕ = length s.heap.objects in
    let done : Closed s = closed s n [] (range_with_len 0 n) (omega (arith, length-range_with_len 0 n)) (begins s) in
    in_order s done.found done.all
