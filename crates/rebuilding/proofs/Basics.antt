-- A value that is not there, equal lists, lists of numbers, and how many things there are.
use Rattle.std.proofs.Common.{◌≡◌, refl, ap, ℕ, zero, suc, ◌+◌, ◌<◌, arith, Bool, true, false, is_some, List, [], ◌∷◌, Option, Some, None, length}
use Rattle.std.proofs.lemmas.Bool.{and_parts, ne_eqb}
use Rattle.std.specs.List.{list_all}
use Rattle.heap_walker.specs.Things.{is_in}
use Rattle.page_meaning.specs.Store.{Store}
use Rattle.rebuild_plan.specs.Compact.{things_at}
use Rattle.rebuilding.specs.Rebuilt.{nth}

pub nothing : {A : Type 0} (o : Option A) → is_some o ≡ false → o ≡ None
nothing None h = refl
nothing (Some a) h = cc h

-- ---- lists

pub heads_same : {A : Type 0} {x y : A} {xs ys : List A} → (x ∷ xs) ≡ (y ∷ ys) → x ≡ y
heads_same e = cc e

pub tails_same : {A : Type 0} {x y : A} {xs ys : List A} → (x ∷ xs) ≡ (y ∷ ys) → xs ≡ ys
tails_same e = cc e

-- ---- numbers

-- one more before is one more after
pub one_on : (a b : ℕ) → a + suc b ≡ suc a + b
one_on a b = omega arith

-- ---- lists of numbers

-- what holds of all holds at each place
pub all_at : (p : ℕ → Bool) (ks : List ℕ) (n : ℕ) → list_all p ks ≡ true → n < length ks → p (nth ks n) ≡ true
all_at p [] n h inside = absurd (omega (arith, inside))
all_at p (k ∷ ks) zero h inside = (and_parts _ _ h).0
all_at p (k ∷ ks) (suc n) h inside = all_at p ks n (and_parts _ _ h).1 (omega (arith, inside))

pub not_in : (j k : ℕ) → (j ≡ k → ⊥) → is_in j (k ∷ []) ≡ false
not_in j k other = rw (ne_eqb j k other) refl

-- ---- things

pub things_long : (s : Store) (things ks : List ℕ) → length (things_at s things ks) ≡ length ks
things_long s things [] = refl
things_long s things (k ∷ ks) = ap suc (things_long s things ks)
