-- Meaning: the functions of `Math` (section 15.8.2) on whole numbers.
use Rattle.std.specs.Prelude.{ℤ, pos, int_lt, unsigned_abs, List, [], ◌∷◌, Option, Some, None, option_map, if◌then◌else◌}
use Rattle.js_values.specs.declared.throw.Throw.TheVariants.{OutOfRange}
use Rattle.js_values.specs.declared.value.Value.{Value}
use Rattle.js_values.specs.declared.value.Value.TheVariants.{Num}
use Rattle.whole_ops.specs.Power.{whole_pow}
use Rattle.page_meaning.specs.Act.{Act, Calls, give, also}
use Rattle.page_meaning.specs.Convert.{as_number, number_in, to_number}
use Rattle.page_meaning.specs.Errors.{raise}
use Rattle.page_meaning.specs.Operators.{on_numbers}

-- 15.8.2.1
abbrev pub absolute : Calls → Value → Act
absolute calls v = also (to_number calls v) (λ n. give (Num (option_map (λ z. pos (unsigned_abs z)) (number_in n))))

-- 15.8.2.6, 15.8.2.9 and 15.8.2.15: a whole number is itself
abbrev pub rounded : Calls → Value → Act
rounded calls v = to_number calls v

-- the larger and the smaller of two numbers, NaN where one of them is
abbrev pub larger : Option ℤ → Option ℤ → Option ℤ
larger None b = None
larger (Some x) None = None
larger (Some x) (Some y) = if int_lt x y then Some y else Some x

abbrev pub smaller : Option ℤ → Option ℤ → Option ℤ
smaller None b = None
smaller (Some x) None = None
smaller (Some x) (Some y) = if int_lt y x then Some y else Some x

-- all values are made numbers, in order
abbrev pub picked : Calls → (Option ℤ → Option ℤ → Option ℤ) → List Value → Option ℤ → Act
picked calls f [] n = give (Num n)
picked calls f (v ∷ vs) n = also (to_number calls v) (λ m. picked calls f vs (f n (number_in m)))

-- 15.8.2.11 and 15.8.2.12: of no values it would be an infinity
abbrev pub picked_of : Calls → (Option ℤ → Option ℤ → Option ℤ) → List Value → Act
picked_of calls f [] = raise OutOfRange
picked_of calls f (v ∷ vs) = also (to_number calls v) (λ n. picked calls f vs (number_in n))

-- 15.8.2.13
abbrev pub power : Calls → Value → Value → Act
power calls = on_numbers calls (λ a b. as_number (whole_pow a b))
