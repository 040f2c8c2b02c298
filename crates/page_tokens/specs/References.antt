-- Character references in text and in values.
use Rattle.std.specs.Prelude.{◌≡◌, ℕ, Bool, ◌||◌, ◌==◌, if◌then◌else◌, List, [], ◌∷◌, ◌++◌, drop, Option, Some, None, bytes_eq, codes}
use Rattle.std.specs.Char.{is_digit}
use Rattle.std.specs.Char.Escape.{encode_utf16}
use Rattle.std.specs.Int.{is_in_range}
use Rattle.std.specs.Str.Parse.{digits_value}
use Rattle.page_tokens.specs.Characters.{behind, begins_with, is_letter_or_digit, run_of}

-- what a character or a reference stands for, and what stands behind it
abbrev pub Piece : Type 0
Piece = Option (List ℕ × List ℕ)

-- the characters that have names
unfoldable pub character_named : List ℕ → Option ℕ
character_named name =
    if bytes_eq name (codes "amp") then Some 38
    else (if bytes_eq name (codes "lt") then Some 60
    else (if bytes_eq name (codes "gt") then Some 62
    else (if bytes_eq name (codes "quot") then Some 34
    else (if bytes_eq name (codes "apos") then Some 39
    else (if bytes_eq name (codes "nbsp") then Some 160 else None)))))

-- the characters that have numbers: Unicode scalar values other than 0 and 128 to 159
abbrev pub has_reference : ℕ → Bool
has_reference n = (is_in_range 1 127 n || is_in_range 160 55295 n) || is_in_range 57344 1114111 n

abbrev pub is_semicolon : ℕ → Bool
is_semicolon u = u == 59

-- the character with a number
abbrev pub character_numbered : ℕ → List ℕ → Piece
character_numbered n us = if has_reference n then Some (encode_utf16 n, us) else None

-- one digit or more, and then this
abbrev pub numbered : ℕ → List ℕ → List ℕ → Piece
numbered radix [] us = None
numbered radix (d ∷ ds) us =
    if begins_with is_semicolon us then character_numbered (digits_value radix (d ∷ ds)) (drop 1 us) else None

abbrev pub number_of : ℕ → List ℕ → Piece
number_of radix us = numbered radix (run_of (λ u. is_digit u radix) us) (behind (λ u. is_digit u radix) us)

-- what stands behind `&#`: digits, or `x` and hexadecimal digits
unfoldable pub numeric_of : List ℕ → Piece
numeric_of [] = None
numeric_of (u ∷ us) = if u == 120 then number_of 16 us else number_of 10 (u ∷ us)

-- the character that a reference names, if any
abbrev pub character_of : Option ℕ → List ℕ → Piece
character_of None us = None
character_of (Some character) us = Some (encode_utf16 character, us)

-- letters and digits behind `&`, and then this: a reference where it is `;`
abbrev pub named : List ℕ → List ℕ → List ℕ → Piece
named all [] us = Some (38 ∷ [], all)
named all (n ∷ ns) us =
    if begins_with is_semicolon us then character_of (character_named (n ∷ ns)) (drop 1 us) else Some (38 ∷ [], all)

-- what stands behind `&`. Where no reference does, `&` stands for itself.
unfoldable pub reference_of : List ℕ → Piece
reference_of us =
    if begins_with (λ u. u == 35) us then numeric_of (drop 1 us)
    else named us (run_of is_letter_or_digit us) (behind is_letter_or_digit us)

-- the character or reference with which a text begins
unfoldable pub piece_of : List ℕ → Piece
piece_of [] = None
piece_of (u ∷ us) = if u == 38 then reference_of us else Some (u ∷ [], us)

-- what a text with references stands for
pub data Decodes : List ℕ → List ℕ → Type 0 where
  nothing : Decodes [] []
  more : (text rest units value : List ℕ) → piece_of text ≡ Some (units, rest) → Decodes rest value → Decodes text (units ++ value)
