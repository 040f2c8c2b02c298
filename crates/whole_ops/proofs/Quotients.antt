-- What the code's `/` and `%` give at numbers in range.
use Rattle.std.proofs.Common.{◌≡◌, ℕ, zero, suc, ◌≤◌, ℤ, pos, negsuc, neg_ℤ, w64, FitsSigned, of_z, arith, refl, int_div, int_rem, unsigned_abs, true, false}
use Rattle.std.proofs.Math.Nat.{div-le_self, mod-le}
use Rattle.std.proofs.lemmas.Int.{ints, fits_signed_from_abs}
use Rattle.std.proofs.lemmas.Bool.Decides.{nat_tests}
use Rattle.js_core.specs.Whole.{InRange, largest}
use Rattle.whole_ops.specs.Arithmetic.{is_zero}

pub abs-neg : (n : ℕ) → unsigned_abs (neg_ℤ (pos n)) ≡ n
abs-neg zero = refl
abs-neg (suc n) = refl

quot_small : (x y : ℤ) → unsigned_abs (int_div x y) ≤ unsigned_abs x
quot_small (pos a) (pos b) = div-le_self a b
quot_small (pos a) (negsuc b) = rw abs-neg (div-le_self a (suc b))
quot_small (negsuc a) (pos b) = rw abs-neg (div-le_self (suc a) b)
quot_small (negsuc a) (negsuc b) = div-le_self (suc a) (suc b)

pub abs_in_range : (x : ℤ) → InRange x → unsigned_abs x ≤ largest
abs_in_range (pos a) h = let l = h.1 in omega (arith, ints)
abs_in_range (negsuc a) h = let l = h.0 in omega (arith, ints)

rem_small : (x y : ℤ) → unsigned_abs (int_rem x y) ≤ unsigned_abs x
rem_small (pos a) y = mod-le a (unsigned_abs y)
rem_small (negsuc a) y = rw abs-neg (mod-le (suc a) (unsigned_abs y))

pub quot_fits : (x y : ℤ) → InRange x → FitsSigned w64 (int_div x y)
quot_fits x y h = fits_signed_from_abs w64 (int_div x y) (omega (arith, quot_small x y, abs_in_range x h))

-- the tests of the code, which are on the bits
pub is_zero_yes : (z : ℤ) → FitsSigned w64 z → of_z w64 z ≡ 0 → is_zero z ≡ true
is_zero_yes (pos n) f h = grind (arith, nat_tests)
is_zero_yes (negsuc n) f h = let s = f.sfits in absurd (omega arith)

pub is_zero_no : (z : ℤ) → (of_z w64 z ≡ 0 → ⊥) → is_zero z ≡ false
is_zero_no (pos n) h = grind (arith, nat_tests)
is_zero_no (negsuc n) h = refl

pub rem_fits : (x y : ℤ) → InRange x → FitsSigned w64 (int_rem x y)
rem_fits x y h = fits_signed_from_abs w64 (int_rem x y) (omega (arith, rem_small x y, abs_in_range x h))
