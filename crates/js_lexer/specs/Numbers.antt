-- Numeric literals (section 7.8.3): whole numbers alone.
use Rattle.std.specs.Prelude.{ℕ, Bool, ◌||◌, ◌==◌, if◌then◌else◌, List, [], ◌∷◌, Option, Some, None}
use Rattle.std.specs.Char.{is_digit}
use Rattle.std.specs.List.{list_all}
use Rattle.std.specs.Str.Parse.{digits_value}
use Rattle.js_lexer.specs.Characters.{is_decimal_digit, is_identifier_start}

-- the number that one digit or more write
abbrev pub value_in : ℕ → List ℕ → Option ℕ
value_in radix [] = None
value_in radix (u ∷ us) = if list_all (λ v. is_digit v radix) (u ∷ us) then Some (digits_value radix (u ∷ us)) else None

-- the number that a literal writes behind its first digit 0
abbrev pub value_behind_zero : List ℕ → Option ℕ
value_behind_zero [] = Some 0
value_behind_zero (u ∷ us) = if (u == 120) || (u == 88) then value_in 16 us else None

-- the number that a literal writes: `0`, decimal digits that do not begin with 0, or `0x` or `0X` and hexadecimal digits
unfoldable pub value_of : List ℕ → Option ℕ
value_of [] = None
value_of (u ∷ us) = if u == 48 then value_behind_zero us else value_in 10 (u ∷ us)

-- a digit, a point or the start of an identifier, which may not follow a literal
abbrev pub is_refused_behind_number : ℕ → Bool
is_refused_behind_number u = is_decimal_digit u || (u == 46) || is_identifier_start u
