-- String literals (section 7.8.4).
use Rattle.std.specs.Prelude.{◌≡◌, ℕ, ◌+◌, ◌*◌, not, ◌||◌, ◌&&◌, ◌==◌, if◌then◌else◌, List, [], ◌∷◌, drop, Option, Some, None}
use Rattle.std.specs.Char.{digit_value}
use Rattle.js_core.specs.Characters.{is_line_end}
use Rattle.js_lexer.specs.Characters.{is_decimal_digit, is_hex_digit, begins_with}

-- what a character of a literal stands for, one unit or nothing, and what stands behind it
abbrev pub Character : Type 0
Character = Option (Option ℕ × List ℕ)

-- the unit that a backslash and one other character stand for
unfoldable pub unit_escaped_by : ℕ → ℕ
unit_escaped_by u =
    if u == 98 then 8
    else (if u == 116 then 9
    else (if u == 110 then 10
    else (if u == 118 then 11
    else (if u == 102 then 12
    else (if u == 114 then 13 else u)))))

-- two hexadecimal digits: the number that they write, and what stands behind them
abbrev pub hex_pair : List ℕ → Option (ℕ × List ℕ)
hex_pair [] = None
hex_pair (a ∷ []) = None
hex_pair (a ∷ b ∷ us) = if is_hex_digit a && is_hex_digit b then Some (16 * digit_value a + digit_value b, us) else None

-- two digits behind `\x`
abbrev pub pair_escape : Option (ℕ × List ℕ) → Character
pair_escape None = None
pair_escape (Some (unit, us)) = Some (Some unit, us)

-- two more behind the first two of `\u`
abbrev pub with_pair : ℕ → Option (ℕ × List ℕ) → Character
with_pair high None = None
with_pair high (Some (low, us)) = Some (Some (256 * high + low), us)

-- four digits behind `\u`
abbrev pub quad_escape : Option (ℕ × List ℕ) → Character
quad_escape None = None
quad_escape (Some (high, us)) = with_pair high (hex_pair us)

-- what stands behind a backslash. A line end stands for nothing, CR LF being one, and `0` for U+0000 where no digit
-- follows; other decimal digits are no escapes.
unfoldable pub escape_of : List ℕ → Character
escape_of [] = None
escape_of (u ∷ us) =
    if u == 13 then Some (None, if begins_with (λ v. v == 10) us then drop 1 us else us)
    else (if is_line_end u then Some (None, us)
    else (if u == 120 then pair_escape (hex_pair us)
    else (if u == 117 then quad_escape (hex_pair us)
    else (if is_decimal_digit u then (if (u == 48) && not (begins_with is_decimal_digit us) then Some (Some 0, us) else None)
    else Some (Some (unit_escaped_by u), us)))))

-- one character of a literal in these quotes
unfoldable pub character_of : ℕ → List ℕ → Character
character_of quote [] = None
character_of quote (u ∷ us) =
    if (u == quote) || is_line_end u then None
    else (if u == 92 then escape_of us else Some (Some u, us))

-- a character's unit stands before the others
abbrev pub with_unit : Option ℕ → List ℕ → List ℕ
with_unit None value = value
with_unit (Some unit) value = unit ∷ value

-- the text begins with characters of a literal and its closing quote: what stands behind it, and the units that the
-- characters stand for
pub data Closes (quote : ℕ) : List ℕ → List ℕ → List ℕ → Type 0 where
  here : (rest : List ℕ) → Closes quote (quote ∷ rest) rest []
  later : (text behind rest : List ℕ) (unit : Option ℕ) (value : List ℕ) → character_of quote text ≡ Some (unit, behind) → Closes quote behind rest value → Closes quote text rest (with_unit unit value)
