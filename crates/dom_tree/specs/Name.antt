-- Names of elements and attributes.
use Rattle.std.specs.Prelude.{ℕ, Bool, false, ◌&&◌, ◌||◌, not, List, [], ◌∷◌, map}
use Rattle.std.specs.Char.{is_ascii_uppercase, to_ascii_lowercase}
use Rattle.std.specs.Int.{is_in_range}
use Rattle.std.specs.List.{list_all}

-- an ASCII letter, `_` or `:`
abbrev pub is_name_start : ℕ → Bool
is_name_start u = is_in_range 65 90 u || is_in_range 97 122 u || is_in_range 95 95 u || is_in_range 58 58 u

-- such a character, an ASCII digit, `-` or `.`
abbrev pub is_name_part : ℕ → Bool
is_name_part u = is_name_start u || is_in_range 48 57 u || is_in_range 45 46 u

abbrev pub is_name : List ℕ → Bool
is_name [] = false
is_name (u ∷ us) = is_name_start u && list_all is_name_part us

-- the name with its ASCII letters in lower case
abbrev pub folded : List ℕ → List ℕ
folded name = map to_ascii_lowercase name

-- a name without a letter in upper case
abbrev pub is_folded_name : List ℕ → Bool
is_folded_name name = is_name name && list_all (λ u. not (is_ascii_uppercase u)) name
