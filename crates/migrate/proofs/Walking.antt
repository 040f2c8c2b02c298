-- That there is a walk of each page, whatever is reached.
use Rattle.std.proofs.Common.{◌≡◌, ◌⊎◌, inl, inr, refl, sym, ap, subst, ◌∙◌, ℕ, zero, suc, ◌+◌, ◌≤◌, ◌<◌, Bool, true, false, List, [], ◌∷◌, length, nat_eq, arith}
use Rattle.std.proofs.Math.Bool.{or-true}
use Rattle.std.proofs.lemmas.Bool.{and_parts, eq-eqb, eqb-true, ltb-true}
use Rattle.std.specs.List.{slice_index}
use Rattle.std.specs.List.Sorted.{IsStrictlyIncreasing}
use Rattle.page_meaning.specs.Store.{Store}
use Rattle.heap_walker.proofs.Callers.{thing_of}
use Rattle.heap_walker.specs.Things.{IsWalk, Reach, is_in}

-- what can be reached is there
there : (s : Store) (k : ℕ) → Reach s k → k < length s.heap.objects
there s k reach = ltb-true k (length s.heap.objects) (and_parts _ _ (thing_of s k reach)).1

in_here : (k : ℕ) (ks : List ℕ) → is_in k (k ∷ ks) ≡ true
in_here k ks = rw (eq-eqb k k refl) refl

in_more : (q k : ℕ) (ks : List ℕ) → is_in q ks ≡ true → is_in q (k ∷ ks) ≡ true
in_more q k ks h = rw h (or-true (nat_eq q k))

from_more : (q k : ℕ) (ks : List ℕ) → is_in q (k ∷ ks) ≡ true → (q ≡ k) ⊎ (is_in q ks ≡ true)
from_more q k ks h = by_case (nat_eq q k) refl
  where
    by_case : (b : Bool) → nat_eq q k ≡ b → (q ≡ k) ⊎ (is_in q ks ≡ true)
    by_case true e = inl (eqb-true q k e)
    by_case false e = inr (rw e at h)

-- the places from this one on that can be reached, by age
record IsWalkFrom (s : Store) (low high : ℕ) (ks : List ℕ) : Type 0 where
  rising : IsStrictlyIncreasing ks
  above : (q : ℕ) → is_in q ks ≡ true → low ≤ q
  sound : (q : ℕ) → is_in q ks ≡ true → Reach s q
  complete : (q : ℕ) → low ≤ q → q < high → Reach s q → is_in q ks ≡ true

rises_behind : (k : ℕ) (ks : List ℕ) → ((q : ℕ) → is_in q ks ≡ true → k < q) → IsStrictlyIncreasing ks → IsStrictlyIncreasing (k ∷ ks)
rises_behind k [] above rising n h = absurd (omega (arith, h))
rises_behind k (x ∷ xs) above rising zero h = above x (in_here x xs)
rises_behind k (x ∷ xs) above rising (suc n) h =
    let next : suc (n + 1) ≡ suc n + 1 = omega arith in
    subst (λ m. slice_index (x ∷ xs) n < slice_index (k ∷ x ∷ xs) m) next (rising n (omega (arith, h)))

none_from : (s : Store) (low : ℕ) → IsWalkFrom s low low []
none_from s low = record {
  rising = λ n h. absurd (omega (arith, h));
  above = λ q h. cc h;
  sound = λ q h. cc h;
  complete = λ q from below reach. absurd (omega (arith, from, below));
}

at_or_past : (low q : ℕ) → low ≤ q → (q ≡ low) ⊎ (suc low ≤ q)
at_or_past low q h = by_case (nat_eq q low) refl
  where
    by_case : (b : Bool) → nat_eq q low ≡ b → (q ≡ low) ⊎ (suc low ≤ q)
    by_case true e = inl (eqb-true q low e)
    by_case false e = inr (omega (arith, h, other e))
      where
        other : nat_eq q low ≡ false → ¬ (q ≡ low)
        other e same = cc (sym (eq-eqb q low same) ∙ e)

-- one more place, which can be reached
with_place : (s : Store) (low high : ℕ) (ks : List ℕ) → Reach s low → IsWalkFrom s (suc low) high ks → IsWalkFrom s low high (low ∷ ks)
with_place s low high ks reach w = record {
  rising = rises_behind low ks (λ q h. omega (arith, w.above q h)) w.rising;
  above = λ q h. above_by q (from_more q low ks h);
  sound = λ q h. sound_by q (from_more q low ks h);
  complete = λ q from below at. complete_by q (at_or_past low q from) below at;
}
  where
    above_by : (q : ℕ) → (q ≡ low) ⊎ (is_in q ks ≡ true) → low ≤ q
    above_by q (inl same) = omega (arith, same)
    above_by q (inr more) = omega (arith, w.above q more)

    sound_by : (q : ℕ) → (q ≡ low) ⊎ (is_in q ks ≡ true) → Reach s q
    sound_by q (inl same) = subst (Reach s) (sym same) reach
    sound_by q (inr more) = w.sound q more

    complete_by : (q : ℕ) → (q ≡ low) ⊎ (suc low ≤ q) → q < high → Reach s q → is_in q (low ∷ ks) ≡ true
    complete_by q (inl same) below at = ap (λ n. is_in n (low ∷ ks)) same ∙ in_here low ks
    complete_by q (inr past) below at = in_more q low ks (w.complete q past below at)

-- or which can not
past_place : (s : Store) (low high : ℕ) (ks : List ℕ) → ¬ Reach s low → IsWalkFrom s (suc low) high ks → IsWalkFrom s low high ks
past_place s low high ks none w = record {
  rising = w.rising;
  above = λ q h. omega (arith, w.above q h);
  sound = w.sound;
  complete = λ q from below at. by q (at_or_past low q from) below at;
}
  where
    by : (q : ℕ) → (q ≡ low) ⊎ (suc low ≤ q) → q < high → Reach s q → is_in q ks ≡ true
    by q (inl same) below at = absurd (none (subst (Reach s) same at))
    by q (inr past) below at = w.complete q past below at

-- so many places from this one on: each of them can be reached or not
some_from : (s : Store) (low high more : ℕ) → low + more ≡ high → ((ks : List ℕ) → ¬ IsWalkFrom s low high ks) → ⊥
some_from s low high zero e never =
    let same : low ≡ high = omega (arith, e) in
    never [] (subst (λ n. IsWalkFrom s low n []) same (none_from s low))
some_from s low high (suc more) e never =
    some_from s (suc low) high more (omega (arith, e)) λ ks w.
    never ks (past_place s low high ks (λ reach. never (low ∷ ks) (with_place s low high ks reach w)) w)

pub some_walk : (s : Store) → ((things : List ℕ) → ¬ IsWalk s things) → ⊥
some_walk s never = some_from s 0 (length s.heap.objects) (length s.heap.objects) (omega arith) λ ks w. never ks (record {
  rising = w.rising;
  sound = w.sound;
  complete = λ k reach. w.complete k (omega arith) (there s k reach) reach;
})
