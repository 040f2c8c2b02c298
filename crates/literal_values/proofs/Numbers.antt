-- Operators give NaN or a number in range, which is a bounded one.
use Rattle.std.proofs.Common.{◌≡◌, refl, subst, ℕ, suc, ◌-◌, ◌*◌, ◌/◌, ◌^◌, ◌<◌, ◌≤◌, ℤ, pos, negsuc, ◌+ℤ◌, ◌-ℤ◌, ◌*ℤ◌, unsigned_abs, int_div, int_rem, Bool, true, false, if◌then◌else◌, List, [], ◌∷◌, Option, Some, None, Ok, Err, nat_lt, bit_and, mod-lt, div-le_self, arith}
use Rattle.std.specs.Int.{int_pow}
use Rattle.std.specs.Option.{ForSome}
use Rattle.std.specs.Str.Parse.{digits_value}
use Rattle.std.proofs.lemmas.Int.{ints}
use Rattle.std.proofs.lemmas.Bool.{leb-true}
use Rattle.std.proofs.lemmas.Nat.{and_le_l, or_lt, xor_lt}
use lib.Signed.{shr_z}
use Rattle.js_core.specs.Whole.{InRange, is_whole, largest}
use Rattle.whole_ops.specs.declared.fault.OpFault.TheVariants.{Outside}
use Rattle.whole_ops.specs.declared.bit_ops.BitOp.{BitOp}
use Rattle.whole_ops.specs.declared.bit_ops.BitOp.TheVariants.{And, Or, Xor, Shl, Shr, Ushr}
use Rattle.whole_ops.specs.Arithmetic.{Outcome, whole_or_outside, of_numbers, sum_of, difference_of, product_of, quotient_of, remainder_of, is_zero, whole_add, whole_sub, whole_mul, whole_div, whole_rem}
use Rattle.whole_ops.specs.Bits.{to_uint32, signed_of, to_int32, shift_count, whole_bits, whole_not}
use Rattle.whole_ops.specs.Equality.{number_of_truth}
use Rattle.whole_ops.specs.Numeral.{decimal_of, hexadecimal_of, literal_of, literal_behind, behind_hex_prefix, to_whole, are_digits, begins_with_minus, is_decimal, with_sign, without_sign}
use Rattle.whole_ops.specs.Power.{power_of, whole_pow}
use Rattle.whole_ops.specs.WhiteSpace.{trimmed}
use Rattle.literal_values.specs.Values.{IsNumber, IsNumberOutcome}

-- ---- one number

nan_in : ForSome None InRange
nan_in z e = absurd (cc e)

some_in : (z : ℤ) → InRange z → ForSome (Some z) InRange
some_in z h y e = subst InRange (cc e) h

abs_in : (z : ℤ) → unsigned_abs z ≤ largest → InRange z
abs_in (pos n) h = (omega (arith, ints), omega (arith, ints))
abs_in (negsuc n) h = (omega (arith, ints), omega (arith, ints))

abs_small : (z : ℤ) → InRange z → unsigned_abs z ≤ largest
abs_small (pos n) h = let l = h.1 in omega (arith, ints)
abs_small (negsuc n) h = let l = h.0 in omega (arith, ints)

whole_in : (z : ℤ) → is_whole z ≡ true → InRange z
whole_in (pos n) h = abs_in (pos n) (leb-true n largest h)
whole_in (negsuc n) h = abs_in (negsuc n) (leb-true (suc n) largest h)

-- a number from 0 up
nat_in : (n : ℕ) → n ≤ largest → ForSome (Some (pos n)) InRange
nat_in n h = some_in (pos n) (abs_in (pos n) h)

-- such a number is bounded
range_number : (n : Option ℤ) → ForSome n InRange → IsNumber n
range_number None h = tt
range_number (Some (pos n)) h = abs_small (pos n) (h (pos n) refl)
range_number (Some (negsuc n)) h = abs_small (negsuc n) (h (negsuc n) refl)

-- ---- what operators give

abbrev OutcomeIn : Outcome → Type 0
OutcomeIn (Ok n) = ForSome n InRange
OutcomeIn (Err e) = Unit {0}

whole_or_in : (z : ℤ) → OutcomeIn (whole_or_outside z)
whole_or_in z = by_case (is_whole z) refl
  where
    by_case : (b : Bool) → is_whole z ≡ b → OutcomeIn (if b then Ok (Some z) else Err Outside)
    by_case true e = some_in z (whole_in z e)
    by_case false e = tt

if_in : (b : Bool) (r s : Outcome) → OutcomeIn r → OutcomeIn s → OutcomeIn (if b then r else s)
if_in true r s h k = h
if_in false r s h k = k

of_numbers_in : (f : ℤ → ℤ → Outcome) → ((x y : ℤ) → OutcomeIn (f x y)) → (a b : Option ℤ) → OutcomeIn (of_numbers f a b)
of_numbers_in f h None b = nan_in
of_numbers_in f h (Some x) None = nan_in
of_numbers_in f h (Some x) (Some y) = h x y

quotient_in : (x y : ℤ) → OutcomeIn (quotient_of x y)
quotient_in x y = if_in (is_zero y) _ _ (if_in (is_zero x) _ _ nan_in tt) (if_in (is_zero (int_rem x y)) _ _ (whole_or_in (int_div x y)) tt)

remainder_in : (x y : ℤ) → OutcomeIn (remainder_of x y)
remainder_in x y = if_in (is_zero y) _ _ nan_in (whole_or_in (int_rem x y))

add_in : (a b : Option ℤ) → OutcomeIn (whole_add a b)
add_in a b = of_numbers_in sum_of (λ x y. whole_or_in (x +ℤ y)) a b

sub_in : (a b : Option ℤ) → OutcomeIn (whole_sub a b)
sub_in a b = of_numbers_in difference_of (λ x y. whole_or_in (x -ℤ y)) a b

mul_in : (a b : Option ℤ) → OutcomeIn (whole_mul a b)
mul_in a b = of_numbers_in product_of (λ x y. whole_or_in (x *ℤ y)) a b

div_in : (a b : Option ℤ) → OutcomeIn (whole_div a b)
div_in a b = of_numbers_in quotient_of quotient_in a b

rem_in : (a b : Option ℤ) → OutcomeIn (whole_rem a b)
rem_in a b = of_numbers_in remainder_of remainder_in a b

power_in : (x n : ℤ) → OutcomeIn (power_of x n)
unfolding power_of
power_in x (pos n) = whole_or_in (int_pow x n)
power_in x (negsuc n) = quotient_in (pos 1) (int_pow x (suc n))

pow_in : (a b : Option ℤ) → OutcomeIn (whole_pow a b)
pow_in a None = nan_in
pow_in None (Some n) = if_in (is_zero n) _ _ (nat_in 1 (omega arith)) nan_in
pow_in (Some x) (Some n) = power_in x n

-- ---- bits

uint32_small : (a : Option ℤ) → to_uint32 a < 2 ^ 32
uint32_small None = omega arith
uint32_small (Some (pos n)) = mod-lt n (omega arith)
uint32_small (Some (negsuc n)) = omega arith

signed_in : (m : ℕ) → m < 2 ^ 32 → InRange (signed_of m)
signed_in m h = by_case (nat_lt m (2 ^ 31)) refl
  where
    by_case : (b : Bool) → nat_lt m (2 ^ 31) ≡ b → InRange (if b then pos m else (pos m -ℤ pos (2 ^ 32)))
    by_case true e = (omega (arith, ints), omega (arith, ints))
    by_case false e = (omega (arith, ints), omega (arith, ints))

shifted_in : (z : ℤ) (m : ℕ) → InRange z → InRange (shr_z z m)
shifted_in (pos n) m h = abs_in (pos (n / m)) (omega (arith, div-le_self n m, abs_small (pos n) h))
shifted_in (negsuc n) m h = abs_in (negsuc (n / m)) (omega (arith, div-le_self n m, abs_small (negsuc n) h))

bits_in : (op : BitOp) (a b : Option ℤ) → ForSome (whole_bits op a b) InRange
bits_in And a b = some_in _ (signed_in (bit_and (to_uint32 a) (to_uint32 b)) (omega (arith, and_le_l (to_uint32 a) (to_uint32 b), uint32_small a)))
bits_in Or a b = some_in _ (signed_in _ (or_lt 32 (to_uint32 a) (to_uint32 b) (uint32_small a) (uint32_small b)))
bits_in Xor a b = some_in _ (signed_in _ (xor_lt 32 (to_uint32 a) (to_uint32 b) (uint32_small a) (uint32_small b)))
bits_in Shl a b = some_in _ (signed_in _ (mod-lt (to_uint32 a * 2 ^ shift_count b) (omega arith)))
bits_in Shr a b = some_in _ (shifted_in (to_int32 a) (2 ^ shift_count b) (signed_in (to_uint32 a) (uint32_small a)))
bits_in Ushr a b = nat_in (to_uint32 a / 2 ^ shift_count b) (omega (arith, div-le_self (to_uint32 a) (2 ^ shift_count b), uint32_small a))

not_in : (a : Option ℤ) → ForSome (whole_not a) InRange
not_in a = some_in _ (signed_in (2 ^ 32 - 1 - to_uint32 a) (omega arith))

-- ---- conversions

truth_in : (b : Bool) → ForSome (number_of_truth b) InRange
truth_in true = nat_in 1 (omega arith)
truth_in false = nat_in 0 (omega arith)

decimal_in : (minus : Bool) (t : List ℕ) → OutcomeIn (decimal_of minus t)
unfolding decimal_of
decimal_in minus t = if_in (are_digits 10 t) _ _ (whole_or_in (with_sign minus (digits_value 10 t))) (if_in (is_decimal t) _ _ tt nan_in)

hexadecimal_in : (t : List ℕ) → OutcomeIn (hexadecimal_of t)
unfolding hexadecimal_of
hexadecimal_in t = if_in (are_digits 16 t) _ _ (whole_or_in (pos (digits_value 16 t))) nan_in

behind_in : (o : Option (List ℕ)) (t : List ℕ) → OutcomeIn (literal_behind o t)
behind_in None t = decimal_in (begins_with_minus t) (without_sign t)
behind_in (Some digits) t = hexadecimal_in digits

literal_in : (t : List ℕ) → OutcomeIn (literal_of t)
unfolding literal_of
literal_in [] = nat_in 0 (omega arith)
literal_in (c ∷ cs) = behind_in (behind_hex_prefix (c ∷ cs)) (c ∷ cs)

text_in : (t : List ℕ) → OutcomeIn (to_whole t)
unfolding to_whole
text_in t = literal_in (trimmed t)

-- ---- the same of bounded numbers

outcome_number : (r : Outcome) → OutcomeIn r → IsNumberOutcome r
outcome_number (Ok n) h = range_number n h
outcome_number (Err e) h = tt

pub whole_or_number : (z : ℤ) → IsNumberOutcome (whole_or_outside z)
whole_or_number z = outcome_number _ (whole_or_in z)

pub add_number : (a b : Option ℤ) → IsNumberOutcome (whole_add a b)
add_number a b = outcome_number _ (add_in a b)

pub sub_number : (a b : Option ℤ) → IsNumberOutcome (whole_sub a b)
sub_number a b = outcome_number _ (sub_in a b)

pub mul_number : (a b : Option ℤ) → IsNumberOutcome (whole_mul a b)
mul_number a b = outcome_number _ (mul_in a b)

pub div_number : (a b : Option ℤ) → IsNumberOutcome (whole_div a b)
div_number a b = outcome_number _ (div_in a b)

pub rem_number : (a b : Option ℤ) → IsNumberOutcome (whole_rem a b)
rem_number a b = outcome_number _ (rem_in a b)

pub pow_number : (a b : Option ℤ) → IsNumberOutcome (whole_pow a b)
pow_number a b = outcome_number _ (pow_in a b)

pub bits_number : (op : BitOp) (a b : Option ℤ) → IsNumber (whole_bits op a b)
bits_number op a b = range_number _ (bits_in op a b)

pub not_number : (a : Option ℤ) → IsNumber (whole_not a)
not_number a = range_number _ (not_in a)

pub truth_number : (b : Bool) → IsNumber (number_of_truth b)
truth_number b = range_number _ (truth_in b)

-- ToNumber of a text
pub to_whole_number : (t : List ℕ) → IsNumberOutcome (to_whole t)
to_whole_number t = outcome_number _ (text_in t)
