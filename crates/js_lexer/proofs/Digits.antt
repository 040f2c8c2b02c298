-- Numbers in digits.
use Rattle.std.proofs.Common.{◌≡◌, ◌∙◌, ℕ, pos, ◌+◌, ◌*◌, ◌<◌, ◌≤◌, false, List, take, length, get_or, ap, sym, arith, None}
use Rattle.std.specs.Char.{digit_value}
use Rattle.std.proofs.lemmas.Int.Digits.{digits_value_more}
use Rattle.std.specs.Prelude.{nat_le}
use Rattle.std.specs.Str.Parse.{digits_value}
use Rattle.std.proofs.Math.Nat.{mul-le-mul_left}
use Rattle.std.proofs.lemmas.Bool.Decides.{nat_tests}
use Rattle.std.proofs.lemmas.Str.Parse.{digits_value-take-le}
use Rattle.js_core.specs.Whole.{largest, whole_of}

pub product_below : (value radix : ℕ) → value ≤ largest → radix ≤ 16 → value * radix ≤ 144115188075855856
product_below value radix v r = omega (arith, mul-le-mul_left value r)

too_large_is : (v : ℕ) → largest < v → whole_of (pos v) ≡ None
too_large_is v l = let no : nat_le v largest ≡ false = grind (arith, nat_tests) in rw no

pub too_large : (radix : ℕ) (ds : List ℕ) (i : ℕ) → 1 ≤ radix → largest < digits_value radix (take i ds) → whole_of (pos (digits_value radix ds)) ≡ None
too_large radix ds i some l = let le = digits_value-take-le radix ds i some in too_large_is (digits_value radix ds) (omega arith)

pub one_more : (radix value : ℕ) (ds : List ℕ) (i : ℕ) → value ≡ digits_value radix (take i ds) → i < length ds → value * radix + digit_value (get_or ds i 0) ≡ digits_value radix (take (i + 1) ds)
one_more radix value ds i e l = ap (λ v. v * radix + digit_value (get_or ds i 0)) e ∙ sym (digits_value_more radix ds i l)
