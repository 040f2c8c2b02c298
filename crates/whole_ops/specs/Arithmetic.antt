-- The operators on numbers (ECMA-262 5.1 sections 11.5 and 11.6): the exact result on integers of any size, where it is one of the numbers.
use Rattle.std.specs.Prelude.{Bool, ℤ, pos, ◌+ℤ◌, ◌-ℤ◌, ◌*ℤ◌, int_div, int_rem, Option, Some, None, Result, Ok, Err, if◌then◌else◌}
use Rattle.std.specs.Ordering.{int_eq}
use Rattle.js_core.specs.Whole.{is_whole, nan}
use Rattle.whole_ops.specs.declared.fault.OpFault.{OpFault}
use Rattle.whole_ops.specs.declared.fault.OpFault.TheVariants.{Outside}

-- what an operator gives
abbrev pub Outcome : Type 0
Outcome = Result (Option ℤ) OpFault

-- the exact result z, where it is one of the numbers
abbrev pub whole_or_outside : ℤ → Outcome
whole_or_outside z = if is_whole z then Ok (Some z) else Err Outside

-- an operator of two numbers: NaN where one of them is NaN
abbrev pub of_numbers : (ℤ → ℤ → Outcome) → Option ℤ → Option ℤ → Outcome
of_numbers f None b = Ok nan
of_numbers f (Some x) None = Ok nan
of_numbers f (Some x) (Some y) = f x y

abbrev pub sum_of : ℤ → ℤ → Outcome
sum_of x y = whole_or_outside (x +ℤ y)

abbrev pub difference_of : ℤ → ℤ → Outcome
difference_of x y = whole_or_outside (x -ℤ y)

abbrev pub product_of : ℤ → ℤ → Outcome
product_of x y = whole_or_outside (x *ℤ y)

abbrev pub is_zero : ℤ → Bool
is_zero z = int_eq z (pos 0)

-- a divisor of 0 gives NaN or an infinity, and one that leaves a remainder a fraction
abbrev pub quotient_of : ℤ → ℤ → Outcome
quotient_of x y =
    if is_zero y then (if is_zero x then Ok nan else Err Outside)
    else (if is_zero (int_rem x y) then whole_or_outside (int_div x y) else Err Outside)

-- with the sign of the dividend
abbrev pub remainder_of : ℤ → ℤ → Outcome
remainder_of x y = if is_zero y then Ok nan else whole_or_outside (int_rem x y)

abbrev pub whole_add : Option ℤ → Option ℤ → Outcome
whole_add = of_numbers sum_of

abbrev pub whole_sub : Option ℤ → Option ℤ → Outcome
whole_sub = of_numbers difference_of

abbrev pub whole_mul : Option ℤ → Option ℤ → Outcome
whole_mul = of_numbers product_of

abbrev pub whole_div : Option ℤ → Option ℤ → Outcome
whole_div = of_numbers quotient_of

abbrev pub whole_rem : Option ℤ → Option ℤ → Outcome
whole_rem = of_numbers remainder_of
