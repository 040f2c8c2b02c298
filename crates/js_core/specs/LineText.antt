-- How a text stands in a line.
use Rattle.std.specs.Prelude.{ℕ, ◌/◌, ◌%◌, Bool, ◌&&◌, ◌||◌, List, [], ◌∷◌, ◌==◌, nat_lt, nat_le, if◌then◌else◌, encode_utf8}
use Rattle.std.specs.List.{flat_map}
use Rattle.std.specs.Char.{digit_char, to_ascii_uppercase}
use Rattle.std.specs.Char.Escape.{backslash}
use Rattle.std.specs.Char.Utf16.{is_high_surrogate, is_low_surrogate, surrogate_pair_char}

-- the code points of a text: a high surrogate and a low one after it are one character, and any other unit is one itself
abbrev pub code_points : List ℕ → List ℕ
code_points [] = []
code_points (u ∷ []) = u ∷ []
code_points (u ∷ v ∷ units) = if is_high_surrogate u && is_low_surrogate v then surrogate_pair_char u v ∷ code_points units
    else u ∷ code_points (v ∷ units)

-- the upper-case hexadecimal digit of a unit at the place that is worth p
abbrev pub hex_digit_of : ℕ → ℕ → ℕ
hex_digit_of p u = to_ascii_uppercase (digit_char (u / p % 16))

-- `\u` and the four digits of a unit
abbrev pub unit_escape : ℕ → List ℕ
unit_escape u = backslash ∷ 117 ∷ hex_digit_of 0x1000 u ∷ hex_digit_of 0x100 u ∷ hex_digit_of 0x10 u ∷ hex_digit_of 1 u ∷ []

-- a control character, U+0000 to U+001F or U+007F to U+009F, or a surrogate
abbrev pub is_escaped : ℕ → Bool
is_escaped c = nat_lt c 0x20 || (nat_le 0x7F c && nat_lt c 0xA0) || (nat_le 0xD800 c && nat_lt c 0xE000)

-- a code point in a line: a backslash is doubled, what is escaped is `\u` and its digits, and all else is UTF-8
abbrev pub line_code : ℕ → List ℕ
line_code c = if c == backslash then backslash ∷ backslash ∷ [] else (if is_escaped c then unit_escape c else encode_utf8 c)

-- a text in a line
abbrev pub line_text : List ℕ → List ℕ
line_text units = flat_map line_code (code_points units)
