-- Which text writes which number (ECMA-262 5.1 section 9.3.1), production by production.
-- A decimal with a point or an exponent and `Infinity` are derived, and write no number of the language.
use Rattle.std.specs.Prelude.{◌≡◌, ℕ, pos, ◌<◌, Bool, true, false, ◌⊎◌, List, [], ◌∷◌, ◌++◌, length, codes, Some, Ok, Err}
use Rattle.std.specs.Char.{is_digit}
use Rattle.std.specs.List.{list_all}
use Rattle.std.specs.Str.Parse.{digits_value}
use Rattle.whole_ops.specs.Arithmetic.{Outcome, whole_or_outside}
use Rattle.whole_ops.specs.Numeral.{with_sign}
use Rattle.whole_ops.specs.WhiteSpace.{is_str_white_space}
use Rattle.whole_ops.specs.declared.fault.OpFault.TheVariants.{Outside}

-- StrWhiteSpace, or nothing
abbrev pub AreWhiteSpace : List ℕ → Type 0
AreWhiteSpace t = list_all is_str_white_space t ≡ true

-- digits, or nothing
abbrev pub AreDigits : ℕ → List ℕ → Type 0
AreDigits radix t = list_all (λ d. is_digit d radix) t ≡ true

-- DecimalDigits, in base 10, and HexDigits, in base 16
abbrev pub IsNumeral : ℕ → List ℕ → Type 0
IsNumeral radix t = (0 < length t) × AreDigits radix t

-- `+`, `-` or nothing, and whether it is `-`
pub data IsSign (t : List ℕ) (minus : Bool) : Type 0 where
  no_sign : t ≡ [] → minus ≡ false → IsSign t minus
  plus_sign : t ≡ codes "+" → minus ≡ false → IsSign t minus
  minus_sign : t ≡ codes "-" → minus ≡ true → IsSign t minus

-- ExponentPart: `e` or `E`, a sign and digits
pub data IsExponent (t : List ℕ) : Type 0 where
  exponent : (mark : ℕ) (sign digits : List ℕ) (minus : Bool) → (mark ≡ 101) ⊎ (mark ≡ 69) → IsSign sign minus → IsNumeral 10 digits → t ≡ mark ∷ (sign ++ digits) → IsExponent t

pub data IsExponentOrNothing (t : List ℕ) : Type 0 where
  no_exponent : t ≡ [] → IsExponentOrNothing t
  some_exponent : IsExponent t → IsExponentOrNothing t

-- StrUnsignedDecimalLiteral, but for digits alone
pub data IsDecimal (t : List ℕ) : Type 0 where
  infinity : t ≡ codes "Infinity" → IsDecimal t
  point_behind_digits : (whole fraction rest : List ℕ) → IsNumeral 10 whole → AreDigits 10 fraction → IsExponentOrNothing rest → t ≡ whole ++ 46 ∷ (fraction ++ rest) → IsDecimal t
  point_before_digits : (fraction rest : List ℕ) → IsNumeral 10 fraction → IsExponentOrNothing rest → t ≡ 46 ∷ (fraction ++ rest) → IsDecimal t
  exponent_behind_digits : (whole rest : List ℕ) → IsNumeral 10 whole → IsExponent rest → t ≡ whole ++ rest → IsDecimal t

-- StrNumericLiteral: a sign and digits; a sign and another decimal; `0x` or `0X` and hexadecimal digits
pub data IsLiteral (t : List ℕ) (gives : Outcome) : Type 0 where
  integer : (sign digits : List ℕ) (minus : Bool) → IsSign sign minus → IsNumeral 10 digits → t ≡ sign ++ digits → gives ≡ whole_or_outside (with_sign minus (digits_value 10 digits)) → IsLiteral t gives
  decimal : (sign unsigned : List ℕ) (minus : Bool) → IsSign sign minus → IsDecimal unsigned → t ≡ sign ++ unsigned → gives ≡ Err Outside → IsLiteral t gives
  hexadecimal : (mark : ℕ) (digits : List ℕ) → (mark ≡ 120) ⊎ (mark ≡ 88) → IsNumeral 16 digits → t ≡ 48 ∷ mark ∷ digits → gives ≡ whole_or_outside (pos (digits_value 16 digits)) → IsLiteral t gives

-- StringNumericLiteral: white space alone, which writes 0, or a literal with white space round it
pub data Writes (t : List ℕ) (gives : Outcome) : Type 0 where
  blank : AreWhiteSpace t → gives ≡ Ok (Some (pos 0)) → Writes t gives
  literal : (before within after : List ℕ) → AreWhiteSpace before → IsLiteral within gives → AreWhiteSpace after → t ≡ before ++ within ++ after → Writes t gives
