-- Pairs of things: their sides, and that they are one to one where no thing is twice on a side.
use Rattle.std.proofs.Common.{◌≡◌, ◌⊎◌, inl, inr, refl, sym, ap, subst, ◌∙◌, ℕ, ◌<◌, ◌≤◌, true, false, not, nat_eq, List, [], ◌∷◌, ◌++◌, length, arith}
use Rattle.std.proofs.lemmas.Bool.{and_parts, eq-eqb, eqb-true, not-true, or_cases}
use Rattle.heap_relations.specs.Naming.{In, Pair, here, pair, there}
use Rattle.heap_walker.proofs.Callers.{thing_of}
use Rattle.heap_walker.specs.Things.{is_in}
use Rattle.page_meaning.specs.Store.{Store}
use Rattle.rebuild_plan.specs.Moved.{first_thing}
use Rattle.rebuilding.proofs.Callers.{below_named, differ, head_in, in_either, is_same, member_left, member_right, same_below, tail_in, thing_inside}
use Rattle.page_agreement.specs.Agree.{AreReached, Corresponds, built_in, firsts, is_once, pairs, seconds, thing}

-- ---- sides

pub first_in : (m : List Pair) (a b : ℕ) → In (pair a b) m → is_in a (firsts m) ≡ true
first_in [] a b i = elim i [ ]
first_in (p ∷ m) a b here = head_in a (firsts m)
first_in (p ∷ m) a b (there i) = tail_in a p.one (firsts m) (first_in m a b i)

pub second_in : (m : List Pair) (a b : ℕ) → In (pair a b) m → is_in b (seconds m) ≡ true
second_in [] a b i = elim i [ ]
second_in (p ∷ m) a b here = head_in b (seconds m)
second_in (p ∷ m) a b (there i) = tail_in b p.two (seconds m) (second_in m a b i)

-- one of each side has its partner
pub record HasSecond (m : List Pair) (a : ℕ) : Type 0 where
  pub other : ℕ
  pub among : In (pair a other) m

pub second_of : (m : List Pair) (a : ℕ) → is_in a (firsts m) ≡ true → HasSecond m a
second_of [] a h = cc h
second_of (p ∷ m) a h = by (or_cases (nat_eq a p.one) (is_in a (firsts m)) h) (λ g. second_of m a g)
  where
    by : (nat_eq a p.one ≡ true) ⊎ (is_in a (firsts m) ≡ true) → (is_in a (firsts m) ≡ true → HasSecond m a) → HasSecond (p ∷ m) a
    by (inl e) later = record { other = p.two; among = subst (λ k. In (pair k p.two) (p ∷ m)) (sym (eqb-true a p.one e)) here }
    by (inr g) later = let f = later g in record { other = f.other; among = there f.among }

pub record HasFirst (m : List Pair) (b : ℕ) : Type 0 where
  pub other : ℕ
  pub among : In (pair other b) m

pub first_of : (m : List Pair) (b : ℕ) → is_in b (seconds m) ≡ true → HasFirst m b
first_of [] b h = cc h
first_of (p ∷ m) b h = by (or_cases (nat_eq b p.two) (is_in b (seconds m)) h) (λ g. first_of m b g)
  where
    by : (nat_eq b p.two ≡ true) ⊎ (is_in b (seconds m) ≡ true) → (is_in b (seconds m) ≡ true → HasFirst m b) → HasFirst (p ∷ m) b
    by (inl e) later = record { other = p.one; among = subst (λ k. In (pair p.one k) (p ∷ m)) (sym (eqb-true b p.two e)) here }
    by (inr g) later = let f = later g in record { other = f.other; among = there f.among }

-- the pairs of two lists have these for their sides
pub firsts_are : (ks js : List ℕ) → length js ≡ length ks → firsts (pairs ks js) ≡ ks
firsts_are [] js same = refl
firsts_are (k ∷ ks) [] same = absurd (omega (arith, same))
firsts_are (k ∷ ks) (j ∷ js) same = ap (λ xs. k ∷ xs) (firsts_are ks js (omega (arith, same)))

pub seconds_are : (ks js : List ℕ) → length js ≡ length ks → seconds (pairs ks js) ≡ js
seconds_are [] [] same = refl
seconds_are [] (j ∷ js) same = absurd (omega (arith, same))
seconds_are (k ∷ ks) [] same = absurd (omega (arith, same))
seconds_are (k ∷ ks) (j ∷ js) same = ap (λ xs. j ∷ xs) (seconds_are ks js (omega (arith, same)))

-- ---- one to one

-- one that is in the rest is not the first
apart : (k j : ℕ) (ks : List ℕ) → is_once (k ∷ ks) ≡ true → is_in j ks ≡ true → k ≡ j → ⊥
apart k j ks once found same =
    let none : is_in k ks ≡ false = not-true (is_in k ks) (and_parts (not (is_in k ks)) (is_once ks) once).0 in
    cc (sym none ∙ ap (λ i. is_in i ks) same ∙ found)

pub pairs_apart : (m : List Pair) → is_once (firsts m) ≡ true → is_once (seconds m) ≡ true → (a b c d : ℕ) → In (pair a b) m → In (pair c d) m
    → nat_eq a c ≡ nat_eq b d
pairs_apart [] one two a b c d i j = elim i [ ]
pairs_apart (p ∷ m) one two a b c d here here = eq-eqb a a refl ∙ sym (eq-eqb b b refl)
pairs_apart (p ∷ m) one two a b c d here (there j) =
    differ a c b d (apart a c (firsts m) one (first_in m c d j)) (apart b d (seconds m) two (second_in m c d j))
pairs_apart (p ∷ m) one two a b c d (there i) here =
    differ a c b d (λ e. apart c a (firsts m) one (first_in m a b i) (sym e)) (λ e. apart d b (seconds m) two (second_in m a b i) (sym e))
pairs_apart (p ∷ m) one two a b c d (there i) (there j) =
    pairs_apart m (and_parts (not (is_in p.one (firsts m))) (is_once (firsts m)) one).1
    (and_parts (not (is_in p.two (seconds m))) (is_once (seconds m)) two).1 a b c d i j

-- ---- things

pub young : (s : Store) (ks : List ℕ) → AreReached s ks → (k : ℕ) → is_in k ks ≡ true → first_thing ≤ k
young s ks all k found = (thing_inside s k (thing_of s k (all.sound k found))).0

pub thing_there : (s : Store) (ks : List ℕ) → AreReached s ks → (k : ℕ) → is_in k ks ≡ true → k < length s.heap.objects
thing_there s ks all k found = (thing_inside s k (thing_of s k (all.sound k found))).1

module _ (m : List Pair) (s t : Store) (left : AreReached s (firsts m)) (right : AreReached t (seconds m)) where
  pub correspond_apart : (a b c d : ℕ) → Corresponds m a b → Corresponds m c d → nat_eq a c ≡ nat_eq b d
  correspond_apart a b c d (built_in one low) (built_in two small) = rw (one, two) refl
  correspond_apart a b c d (built_in one low) (thing j) =
      differ a c b d (λ e. absurd (omega (arith, e, low, young s (firsts m) left c (first_in m c d j))))
      (λ e. absurd (omega (arith, e, low, one, young t (seconds m) right d (second_in m c d j))))
  correspond_apart a b c d (thing i) (built_in two small) =
      differ a c b d (λ e. absurd (omega (arith, e, small, young s (firsts m) left a (first_in m a b i))))
      (λ e. absurd (omega (arith, e, small, two, young t (seconds m) right b (second_in m a b i))))
  correspond_apart a b c d (thing i) (thing j) = pairs_apart m left.once right.once a b c d i j

-- ---- the pairs with those of what each page begins with

abbrev pub all_pairs : List Pair → List Pair
all_pairs m = same_below first_thing ++ m

pub corresponding : (m : List Pair) (a b : ℕ) → In (pair a b) (all_pairs m) → Corresponds m a b
corresponding m a b i = by (in_either (pair a b) (same_below first_thing) m i)
  where
    by : In (pair a b) (same_below first_thing) ⊎ In (pair a b) m → Corresponds m a b
    by (inl j) = let h = is_same first_thing a b j in built_in h.same h.below
    by (inr j) = thing j

pub paired : (m : List Pair) (a b : ℕ) → Corresponds m a b → In (pair a b) (all_pairs m)
paired m a b (built_in same low) =
    subst (λ j. In (pair a j) (all_pairs m)) same (member_left (pair a a) (same_below first_thing) m (below_named first_thing a low))
paired m a b (thing i) = member_right (pair a b) (same_below first_thing) m i
