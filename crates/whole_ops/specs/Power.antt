-- Powers (ECMA-262 5.1 section 15.8.2.13): the exact result on integers of any size, where it is one of the numbers.
use Rattle.std.specs.Prelude.{suc, ℤ, pos, negsuc, Option, Some, None, Ok, if◌then◌else◌}
use Rattle.std.specs.Int.{int_pow}
use Rattle.js_core.specs.Whole.{nan}
use Rattle.whole_ops.specs.Arithmetic.{Outcome, whole_or_outside, is_zero, quotient_of}

-- x to the power of an integer; a power below 0 is 1 divided by that of the opposite
unfoldable pub power_of : ℤ → ℤ → Outcome
power_of x (pos n) = whole_or_outside (int_pow x n)
power_of x (negsuc n) = quotient_of (pos 1) (int_pow x (suc n))

-- NaN to the power of 0 is 1 too
abbrev pub whole_pow : Option ℤ → Option ℤ → Outcome
whole_pow a None = Ok nan
whole_pow None (Some n) = if is_zero n then Ok (Some (pos 1)) else Ok nan
whole_pow (Some x) (Some n) = power_of x n
