-- The number that a text writes (ECMA-262 5.1 section 9.3.1), where decimals with a point, an exponent or `Infinity` count as no number of the language.
use Rattle.std.specs.Prelude.{ℕ, ℤ, pos, neg_ℤ, Bool, true, false, ◌&&◌, ◌||◌, ◌==◌, if◌then◌else◌, List, [], ◌∷◌, codes, bytes_eq, Option, Some, None, Ok, Err}
use Rattle.std.specs.List.{list_all}
use Rattle.std.specs.Char.{is_digit}
use Rattle.std.specs.Fmt.{signed_decimal}
use Rattle.std.specs.Str.Parse.{digits_value}
use Rattle.js_core.specs.Whole.{nan}
use Rattle.whole_ops.specs.Arithmetic.{Outcome, whole_or_outside}
use Rattle.whole_ops.specs.WhiteSpace.{behind, trimmed}
use Rattle.whole_ops.specs.declared.fault.OpFault.TheVariants.{Outside}

-- ---- digits and signs

-- one or more digits
abbrev pub are_digits : ℕ → List ℕ → Bool
are_digits radix [] = false
are_digits radix (c ∷ cs) = list_all (λ d. is_digit d radix) (c ∷ cs)

abbrev pub begins_with_digit : List ℕ → Bool
begins_with_digit [] = false
begins_with_digit (c ∷ cs) = is_digit c 10

abbrev pub behind_digits : List ℕ → List ℕ
behind_digits = behind (λ d. is_digit d 10)

-- `+` or `-`
abbrev pub is_sign : ℕ → Bool
is_sign c = (c == 43) || (c == 45)

abbrev pub begins_with_minus : List ℕ → Bool
begins_with_minus [] = false
begins_with_minus (c ∷ cs) = c == 45

abbrev pub without_sign : List ℕ → List ℕ
without_sign [] = []
without_sign (c ∷ cs) = if is_sign c then cs else c ∷ cs

abbrev pub with_sign : Bool → ℕ → ℤ
with_sign minus n = if minus then neg_ℤ (pos n) else pos n

-- ---- literals

-- nothing, or `e` or `E` and an integer
unfoldable pub is_exponent : List ℕ → Bool
is_exponent [] = true
is_exponent (c ∷ cs) = ((c == 101) || (c == 69)) && are_digits 10 (without_sign cs)

-- what may follow the digits before a point, of which there are some or not: digits stand on one of the two sides of a point
unfoldable pub goes_on_as_decimal : Bool → List ℕ → Bool
goes_on_as_decimal some [] = some
goes_on_as_decimal some (c ∷ cs) =
    if c == 46 then (some || begins_with_digit cs) && is_exponent (behind_digits cs) else some && is_exponent (c ∷ cs)

-- StrUnsignedDecimalLiteral
unfoldable pub is_decimal : List ℕ → Bool
is_decimal t = bytes_eq t (codes "Infinity") || goes_on_as_decimal (begins_with_digit t) (behind_digits t)

-- what stands behind `0x` or `0X`, where the text begins so
abbrev pub behind_hex_prefix : List ℕ → Option (List ℕ)
behind_hex_prefix [] = None
behind_hex_prefix (c ∷ []) = None
behind_hex_prefix (c ∷ d ∷ cs) = if (c == 48) && ((d == 120) || (d == 88)) then Some cs else None

-- a StrUnsignedDecimalLiteral behind its sign
unfoldable pub decimal_of : Bool → List ℕ → Outcome
decimal_of minus t =
    if are_digits 10 t then whole_or_outside (with_sign minus (digits_value 10 t))
    else (if is_decimal t then Err Outside else Ok nan)

unfoldable pub hexadecimal_of : List ℕ → Outcome
hexadecimal_of t = if are_digits 16 t then whole_or_outside (pos (digits_value 16 t)) else Ok nan

abbrev pub literal_behind : Option (List ℕ) → List ℕ → Outcome
literal_behind None t = decimal_of (begins_with_minus t) (without_sign t)
literal_behind (Some digits) t = hexadecimal_of digits

-- StrNumericLiteral, or nothing
unfoldable pub literal_of : List ℕ → Outcome
literal_of [] = Ok (Some (pos 0))
literal_of (c ∷ cs) = literal_behind (behind_hex_prefix (c ∷ cs)) (c ∷ cs)

-- ---- ToNumber of a text

unfoldable pub to_whole : List ℕ → Outcome
to_whole t = literal_of (trimmed t)

-- ToString of a number (section 9.8.1)
abbrev pub text_of_whole : Option ℤ → List ℕ
text_of_whole None = codes "NaN"
text_of_whole (Some z) = signed_decimal z
