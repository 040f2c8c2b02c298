-- The number of digits in a base, from the left.
use Rattle.std.proofs.Common.{◌≡◌, ℕ, ◌+◌, ◌*◌, ◌<◌, ◌≤◌, List, take, length, get_or, sym, arith}
use Rattle.std.specs.Char.{digit_value}
use Rattle.std.specs.Str.Parse.{digits_value}
use Rattle.std.proofs.lemmas.Int.Digits.{digits_value_more}
use Rattle.std.proofs.lemmas.Str.Parse.{digits_value-take-le}
use Rattle.js_core.specs.Whole.{largest}

-- one more digit
pub one_more : (radix : ℕ) (ds : List ℕ) (i size d : ℕ) → i < length ds → size ≡ digits_value radix (take i ds) → d ≡ digit_value (get_or ds i 0) → size * radix + d ≡ digits_value radix (take (i + 1) ds)
one_more radix ds i size d within so_far digit = rw (so_far, digit) (sym (digits_value_more radix ds i within))

-- a number that passes the largest one stays past it
pub too_large : (radix : ℕ) (ds : List ℕ) (i size : ℕ) → 2 ≤ radix → size ≡ digits_value radix (take i ds) → largest < size → digits_value radix ds ≤ largest → ⊥
too_large radix ds i size two so_far past h = let le = digits_value-take-le radix ds i (omega arith) in omega arith
