-- How a walk goes on, and that there is one.
use Rattle.std.proofs.Common.{◌≡◌, ◌⊎◌, inl, inr, refl, sym, ap, subst, ◌∙◌, ℕ, suc, ◌+◌, ◌≤◌, ◌<◌, true, ◌||◌, List, [], ◌∷◌, length, take, get_or, nat_eq, nat_cmp, arith}
use Rattle.std.proofs.Math.Bool.{or-true}
use Rattle.std.proofs.lemmas.Bool.{and_parts, eq-eqb, eqb-true, ltb-true, or_cases}
use Rattle.std.proofs.lemmas.List.{take_all}
use Rattle.std.proofs.lemmas.List.Folds.{list_any_at, list_any_more}
use Rattle.std.proofs.lemmas.List.Sorted.{IsNonDecreasingBy-from_sort}
use Rattle.std.proofs.lemmas.Map.Keys.{IsStrictlyIncreasing-from_distinct}
use Rattle.std.proofs.lemmas.Map.Steps.{length-le_from_distinct_below}
use Rattle.std.specs.List.{IsDistinct}
use Rattle.std.specs.List.Sorted.{IsSorted, IsStrictlyIncreasing}
use Rattle.std.specs.List.{slice_index}
use Rattle.page_meaning.specs.Store.{Store}
use Rattle.heap_walker.specs.Things.{IsWalk, Reach, is_in, link, links, root, roots}
use Rattle.object_shapes.specs.Links.{is_thing}
use Rattle.heap_walker.specs.Walking.{IsAll, IsPart, joined}
use Rattle.heap_walker.proofs.Places.{same_place}
use Rattle.heap_walker.proofs.Joining.{in_next, joined_from, joined_gained, joined_kept, joined_places}

pub thing_of : (s : Store) (k : ℕ) → Reach s k → is_thing s k ≡ true
thing_of s k (root thing found) = thing
thing_of s k (link from thing found) = thing

-- what can be reached is there
pub there : (s : Store) (k : ℕ) → Reach s k → k < length s.heap.objects
there s k reach = ltb-true k (length s.heap.objects) (and_parts _ _ (thing_of s k reach)).1

-- no more is seen than there is
pub not_more : (s : Store) (first : ℕ) (seen : List ℕ) → IsDistinct nat_eq seen → IsPart s first seen → length seen ≤ length s.heap.objects
not_more s first seen distinct part = length-le_from_distinct_below seen (length s.heap.objects) distinct (λ q h. there s q (part.sound q h))

-- ---- a walk begins, goes on and ends

pub part_begins : (s : Store) → IsPart s 0 (joined s [] (roots s))
part_begins s = record {
  sound = λ k h. from k (joined_from s k [] (roots s) h);
  roots = λ k thing found. joined_gained s k [] (roots s) thing found;
  links = λ j k none thing found. cc none;
}
  where
    from : (k : ℕ) → (is_in k [] ≡ true) ⊎ ((is_thing s k ≡ true) × (is_in k (roots s) ≡ true)) → Reach s k
    from k (inl none) = cc none
    from k (inr new) = root new.0 new.1

pub part_goes_on : (s : Store) (first k : ℕ) (seen new : List ℕ) → first < length seen → k ≡ get_or seen first k → new ≡ joined s seen (links s k) → IsPart s first seen → IsPart s (first + 1) new
part_goes_on s first k seen new inside is made part = record {
  sound = λ q h. from q (joined_from s q seen (links s k) (ap (is_in q) (sym made) ∙ h));
  roots = λ q thing found. ap (is_in q) made ∙ joined_kept s q seen (links s k) (part.roots q thing found);
  links = λ j q h thing found. ap (is_in q) made ∙ next j q thing found (or_cases (is_in j (take first seen)) (nat_eq j (get_or seen first k)) (looked j h));
}
  where
    seen_here : is_in k seen ≡ true
    seen_here = list_any_at (nat_eq k) seen first k inside (ap (nat_eq k) (sym is) ∙ eq-eqb k k refl)

    from : (q : ℕ) → (is_in q seen ≡ true) ⊎ ((is_thing s q ≡ true) × (is_in q (links s k) ≡ true)) → Reach s q
    from q (inl old) = part.sound q old
    from q (inr fresh) = link (part.sound k seen_here) fresh.0 fresh.1

    looked : (j : ℕ) → is_in j (take (first + 1) new) ≡ true → (is_in j (take first seen) || nat_eq j (get_or seen first k)) ≡ true
    looked j h =
        sym (list_any_more (nat_eq j) seen first k inside)
        ∙ ap (is_in j) (sym (joined_places s (first + 1) seen (links s k) (omega (arith, inside))) ∙ ap (take (first + 1)) (sym made))
        ∙ h

    next : (j q : ℕ) → is_thing s q ≡ true → is_in q (links s j) ≡ true → (is_in j (take first seen) ≡ true) ⊎ (nat_eq j (get_or seen first k) ≡ true) → is_in q (joined s seen (links s k)) ≡ true
    next j q thing found (inl old) = joined_kept s q seen (links s k) (part.links j q old thing found)
    next j q thing found (inr now) =
        let same : j ≡ k = eqb-true j (get_or seen first k) now ∙ sym is in
        joined_gained s q seen (links s k) thing (subst (λ n. is_in q (links s n) ≡ true) same found)

-- the same, where the one at the place is read from an equal list
pub part_goes_on_from : (s : Store) (first d : ℕ) (seen new xs : List ℕ) → first < length seen → xs ≡ seen → new ≡ joined s seen (links s (get_or xs first d)) → IsPart s first seen → IsPart s (first + 1) new
part_goes_on_from s first d seen new xs inside same made part =
    let k : ℕ = get_or xs first d in
    let is : k ≡ get_or seen first k = ap (λ l. get_or l first d) same ∙ same_place seen first d k inside in
    part_goes_on s first k seen new inside is made part

pub part_ends : (s : Store) (first : ℕ) (seen : List ℕ) → length seen ≤ first → IsPart s first seen → IsAll s seen
part_ends s first seen past part = record { sound = part.sound; complete = reached }
  where
    reached : (k : ℕ) → Reach s k → is_in k seen ≡ true
    reached k (root thing found) = part.roots k thing found
    reached k (link {j = j} from thing found) = part.links j k (ap (is_in j) (take_all first seen past) ∙ reached j from) thing found

-- in order of age it is a walk
pub walk_of : (s : Store) (seen ks : List ℕ) → IsAll s seen → IsSorted nat_cmp ks → IsDistinct nat_eq ks → ((q : ℕ) → is_in q ks ≡ is_in q seen) → IsWalk s ks
walk_of s seen ks all sorted distinct same = record {
  rising = IsStrictlyIncreasing-from_distinct ks (IsNonDecreasingBy-from_sort (λ n. n) ks sorted) distinct;
  sound = λ k h. all.sound k (sym (same k) ∙ h);
  complete = λ k reach. same k ∙ all.complete k reach;
}

-- ---- there is one

tail_rises : (x : ℕ) (xs : List ℕ) → IsStrictlyIncreasing (x ∷ xs) → IsStrictlyIncreasing xs
tail_rises x xs rises k h =
    let next : suc k + 1 ≡ suc (k + 1) = omega arith in
    subst (λ n. slice_index xs k < slice_index (x ∷ xs) n) next (rises (suc k) (omega (arith, h)))

above : (x : ℕ) (xs : List ℕ) → IsStrictlyIncreasing (x ∷ xs) → (q : ℕ) → is_in q xs ≡ true → x < q
above x [] rises q h = cc h
above x (y ∷ ys) rises q h = by (in_next q y ys h) (λ more. above y ys (tail_rises x (y ∷ ys) rises) q more)
  where
    next : x < y
    next = rises 0 (omega arith)

    by : (q ≡ y) ⊎ (is_in q ys ≡ true) → (is_in q ys ≡ true → y < q) → x < q
    by (inl same) later = omega (arith, next, same)
    by (inr more) later = omega (arith, next, later more)

first_in : (k : ℕ) (ks : List ℕ) → is_in k (k ∷ ks) ≡ true
first_in k ks = rw (eq-eqb k k refl) refl

not_below : (k j : ℕ) (ks js : List ℕ) → IsStrictlyIncreasing (j ∷ js) → is_in k (j ∷ js) ≡ true → j ≤ k
not_below k j ks js rises h = by (in_next k j js h)
  where
    by : (k ≡ j) ⊎ (is_in k js ≡ true) → j ≤ k
    by (inl same) = omega (arith, same)
    by (inr more) = omega (arith, above j js rises k more)

same_rising : (ks js : List ℕ) → IsStrictlyIncreasing ks → IsStrictlyIncreasing js → ((q : ℕ) → is_in q ks ≡ true → is_in q js ≡ true) → ((q : ℕ) → is_in q js ≡ true → is_in q ks ≡ true) → ks ≡ js
same_rising [] [] up down into from = refl
same_rising [] (j ∷ js) up down into from = cc (from j (first_in j js))
same_rising (k ∷ ks) [] up down into from = cc (into k (first_in k ks))
same_rising (k ∷ ks) (j ∷ js) up down into from =
    ap (λ n. n ∷ ks) first ∙ ap (λ l. j ∷ l) (same_rising ks js (tail_rises k ks up) (tail_rises j js down) there_too here_too)
  where
    first : k ≡ j
    first = omega (arith, not_below k j ks js down (into k (first_in k ks)), not_below j k js ks up (from j (first_in j js)))

    there_too : (q : ℕ) → is_in q ks ≡ true → is_in q js ≡ true
    there_too q h = by (in_next q j js (into q (rw h (or-true (nat_eq q k)))))
      where
        by : (q ≡ j) ⊎ (is_in q js ≡ true) → is_in q js ≡ true
        by (inl same) = absurd (omega (arith, above k ks up q h, same, first))
        by (inr more) = more

    here_too : (q : ℕ) → is_in q js ≡ true → is_in q ks ≡ true
    here_too q h = by (in_next q k ks (from q (rw h (or-true (nat_eq q j)))))
      where
        by : (q ≡ k) ⊎ (is_in q ks ≡ true) → is_in q ks ≡ true
        by (inl same) = absurd (omega (arith, above j js down q h, same, first))
        by (inr more) = more

pub walks_are_same : (s : Store) (ks js : List ℕ) → IsWalk s ks → IsWalk s js → ks ≡ js
walks_are_same s ks js one two =
    same_rising ks js one.rising two.rising (λ q h. two.complete q (one.sound q h)) (λ q h. one.complete q (two.sound q h))
