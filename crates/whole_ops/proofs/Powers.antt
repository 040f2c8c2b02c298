-- The size and the sign of powers.
use Rattle.std.proofs.Common.{◌≡◌, ℕ, zero, suc, ◌*◌, ◌%◌, ◌^◌, ◌<◌, ◌≤◌, ◌==◌, ℤ, pos, negsuc, neg_ℤ, unsigned_abs, arith, refl, sym, ap, ◌∙◌, cond, true, false, Err, int_lt}
use Rattle.std.specs.Prelude.{nat_le}
use Rattle.std.specs.Int.{int_pow}
use Rattle.std.proofs.Math.Nat.{pow-suc, pow-le-pow_right, mul-zero, mul-one, mod-eq_of_lt}
use Rattle.std.proofs.lemmas.Bool.Decides.{nat_tests}
use Rattle.js_core.specs.Whole.{largest}
use Rattle.whole_ops.specs.Arithmetic.{whole_or_outside, quotient_of, is_zero}
use Rattle.whole_ops.specs.Power.{power_of}
use Rattle.whole_ops.specs.declared.fault.OpFault.TheVariants.{Outside}
use Rattle.whole_ops.proofs.Quotients.{abs-neg}

-- one more factor passes the largest number: so does each later power
pub past_largest : (b i n : ℕ) → 2 ≤ b → i < n → (b ^ i * b ≤ largest → ⊥) → b ^ n ≤ largest → ⊥
past_largest b i n two less past h =
    let more : b ^ suc i ≤ b ^ n = pow-le-pow_right (omega arith) (omega arith) in
    past (omega (arith, more, pow-suc b i))

is_even : (n : ℕ) → (n % 2 ≡ 1 → ⊥) → (n % 2 == 0) ≡ true
is_even n h = grind (arith, nat_tests)

is_odd : (n : ℕ) → n % 2 ≡ 1 → (n % 2 == 0) ≡ false
is_odd n h = grind (arith, nat_tests)

pub int_pow_even : (x : ℤ) (n : ℕ) → (n % 2 ≡ 1 → ⊥) → int_pow x n ≡ pos (unsigned_abs x ^ n)
int_pow_even (pos a) n h = refl
int_pow_even (negsuc a) n h = rw (is_even n h)

pub int_pow_not_below : (x : ℤ) (n : ℕ) → int_lt x (pos 0) ≡ false → int_pow x n ≡ pos (unsigned_abs x ^ n)
int_pow_not_below (pos a) n h = refl
int_pow_not_below (negsuc a) n h = cc

pub int_pow_odd : (x : ℤ) (n : ℕ) → int_lt x (pos 0) ≡ true → n % 2 ≡ 1 → int_pow x n ≡ neg_ℤ (pos (unsigned_abs x ^ n))
int_pow_odd (pos a) n h odd = absurd (grind (arith, nat_tests))
int_pow_odd (negsuc a) n h odd = rw (is_odd n odd)

pub abs-int_pow : (x : ℤ) (n : ℕ) → unsigned_abs (int_pow x n) ≡ unsigned_abs x ^ n
abs-int_pow (pos a) n = refl
abs-int_pow (negsuc a) n = elim (n % 2 == 0) as (λ b. unsigned_abs (cond b (pos (suc a ^ n)) (neg_ℤ (pos (suc a ^ n)))) ≡ suc a ^ n) [ true ↦ refl | false ↦ abs-neg (suc a ^ n) ]

pub too_large : (z : ℤ) → (unsigned_abs z ≤ largest → ⊥) → whole_or_outside z ≡ Err Outside
too_large z h = let no : nat_le (unsigned_abs z) largest ≡ false = grind (arith, nat_tests) in rw no

one-pow : (n : ℕ) → 1 ^ n ≡ 1
one-pow zero = refl
one-pow (suc n) = pow-suc 1 n ∙ mul-one (1 ^ n) ∙ one-pow n

-- 0 and 1 to a power
pub small_base : (b n : ℕ) → b < 2 → (n ≡ 0 → ⊥) → b ^ n ≡ b
small_base zero zero l h = absurd (h refl)
small_base zero (suc n) l h = pow-suc 0 n ∙ mul-zero (0 ^ n)
small_base (suc zero) n l h = one-pow n
small_base (suc (suc b)) n l h = absurd (omega arith)

-- 1 is divided by no number of more than 1
no_inverse : (p : ℤ) → (unsigned_abs p ≤ largest → ⊥) → quotient_of (pos 1) p ≡ Err Outside
no_inverse (pos n) h =
    let some : is_zero (pos n) ≡ false = grind (arith, nat_tests) in
    let left : 1 % n ≡ 1 = mod-eq_of_lt (omega arith) in
    rw (some, left)
no_inverse (negsuc n) h = let left : 1 % suc n ≡ 1 = mod-eq_of_lt (omega arith) in rw left

pub power_past : (x n : ℤ) → (unsigned_abs (int_pow x (unsigned_abs n)) ≤ largest → ⊥) → Err Outside ≡ power_of x n
unfolding power_of
power_past x (pos k) h = sym (too_large (int_pow x k) h)
power_past x (negsuc k) h = sym (no_inverse (int_pow x (suc k)) h)

pub power_down : (x n p : ℤ) → int_lt n (pos 0) ≡ true → int_pow x (unsigned_abs n) ≡ p → quotient_of (pos 1) p ≡ power_of x n
unfolding power_of
power_down x (pos k) p h e = absurd (grind (arith, nat_tests))
power_down x (negsuc k) p h e = ap (quotient_of (pos 1)) (sym e)

pub power_up : (x n p : ℤ) → int_lt n (pos 0) ≡ false → int_pow x (unsigned_abs n) ≡ p → whole_or_outside p ≡ power_of x n
unfolding power_of
power_up x (pos k) p h e = ap whole_or_outside (sym e)
power_up x (negsuc k) p h e = cc
