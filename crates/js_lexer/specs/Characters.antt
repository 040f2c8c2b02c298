-- The classes of units that tokens are made of.
use Rattle.std.specs.Prelude.{ℕ, Bool, false, not, ◌||◌, ◌&&◌, ◌==◌, List, [], ◌∷◌}
use Rattle.std.specs.Char.{is_digit}
use Rattle.std.specs.Int.{is_in_range}
use Rattle.unicode_ident.specs.Ident.{is_xid_start, is_xid_continue}

-- half of a pair that stands for a character above U+FFFF
abbrev pub is_surrogate : ℕ → Bool
is_surrogate u = is_in_range 55296 57343 u

-- `$`, `_` or a character up to U+FFFF that may start an identifier (section 7.6)
unfoldable pub is_identifier_start : ℕ → Bool
is_identifier_start u = (u == 36) || (u == 95) || (not (is_surrogate u) && is_xid_start u)

-- such a character, one that may continue an identifier, or U+200C or U+200D
unfoldable pub is_identifier_part : ℕ → Bool
is_identifier_part u = (u == 36) || is_in_range 8204 8205 u || (not (is_surrogate u) && is_xid_continue u)

abbrev pub is_decimal_digit : ℕ → Bool
is_decimal_digit u = is_digit u 10

abbrev pub is_hex_digit : ℕ → Bool
is_hex_digit u = is_digit u 16

-- the text begins with a unit of the class
abbrev pub begins_with : (ℕ → Bool) → List ℕ → Bool
begins_with class [] = false
begins_with class (u ∷ us) = class u

-- `"` and `'`
abbrev pub is_quote : ℕ → Bool
is_quote u = (u == 34) || (u == 39)
