-- The classes of units that pages are made of, and what a text begins with.
use Rattle.std.specs.Prelude.{ℕ, ◌+◌, Bool, true, false, not, ◌||◌, ◌&&◌, ◌==◌, if◌then◌else◌, List, [], ◌∷◌, take, drop}
use Rattle.std.specs.Char.{to_ascii_lowercase}
use Rattle.std.specs.Int.{is_in_range}
use Rattle.std.specs.List.{prefix_len}

-- TAB, LF, FF and SP
abbrev pub is_space : ℕ → Bool
is_space u = (u == 9) || (u == 10) || (u == 12) || (u == 32)

-- `"` and `'`
abbrev pub is_quote : ℕ → Bool
is_quote u = (u == 34) || (u == 39)

abbrev pub is_letter : ℕ → Bool
is_letter u = is_in_range 65 90 u || is_in_range 97 122 u

abbrev pub is_letter_or_digit : ℕ → Bool
is_letter_or_digit u = is_letter u || is_in_range 48 57 u

-- what a value without quotes is made of: no white space, quote, `<`, `=`, `>` or back quote
abbrev pub is_value_part : ℕ → Bool
is_value_part u = not (is_space u || is_quote u || (u == 60) || (u == 61) || (u == 62) || (u == 96))

-- a unit that is another than this
abbrev pub is_other : ℕ → ℕ → Bool
is_other end u = not (u == end)

-- the text begins with a unit of the class
abbrev pub begins_with : (ℕ → Bool) → List ℕ → Bool
begins_with class [] = false
begins_with class (u ∷ us) = class u

-- the longest run of the class with which a text begins, and what stands behind it
abbrev pub run_of : (ℕ → Bool) → List ℕ → List ℕ
run_of class us = take (prefix_len class us) us

abbrev pub behind : (ℕ → Bool) → List ℕ → List ℕ
behind class us = drop (prefix_len class us) us

-- the text begins with these codes
abbrev pub is_front : List ℕ → List ℕ → Bool
is_front [] us = true
is_front (c ∷ cs) [] = false
is_front (c ∷ cs) (u ∷ us) = (u == c) && is_front cs us

-- the text begins with these lower-case codes, in whatever case
abbrev pub is_front_in_any_case : List ℕ → List ℕ → Bool
is_front_in_any_case [] us = true
is_front_in_any_case (c ∷ cs) [] = false
is_front_in_any_case (c ∷ cs) (u ∷ us) = (to_ascii_lowercase u == c) && is_front_in_any_case cs us

-- how many units stand before the first place where the test holds of what stands from there on: all, where it holds at
-- none
abbrev pub place_of : (List ℕ → Bool) → List ℕ → ℕ
place_of test [] = 0
place_of test (u ∷ us) = if test (u ∷ us) then 0 else 1 + place_of test us

-- what stands before that place, and from there on
abbrev pub before : (List ℕ → Bool) → List ℕ → List ℕ
before test us = take (place_of test us) us

abbrev pub from : (List ℕ → Bool) → List ℕ → List ℕ
from test us = drop (place_of test us) us
