-- The units of a string literal: the double quotes, what stands for itself, and the characters of escapes.
use Rattle.std.proofs.Common.{◌≡◌, ◌∙◌, ℕ, ◌/◌, ◌%◌, ◌<◌, Bool, true, false, List, [], ◌∷◌, refl, arith}
use Rattle.std.specs.Prelude.{◌==◌, codes, if◌then◌else◌}
use Rattle.std.specs.List.{list_all, flat_map}
use Rattle.std.specs.Char.{digit_char, to_ascii_uppercase}
use Rattle.std.proofs.lemmas.List.Folds.{list_all-append}
use Rattle.std.proofs.lemmas.Bool.{and_from}
use Rattle.js_core.specs.LineText.{unit_escape}
use Rattle.js_print.specs.Spelling.{is_plain, string_unit, string_text}

-- each hexadecimal digit passes
abbrev DigitsPass : (ℕ → Bool) → Type 0
DigitsPass q = (d : ℕ) → d < 16 → q (to_ascii_uppercase (digit_char d)) ≡ true

-- each unit that stands for itself passes
abbrev PlainPass : (ℕ → Bool) → Type 0
PlainPass q = (u : ℕ) → is_plain u ≡ true → q u ≡ true

place_passes : (q : ℕ → Bool) → DigitsPass q → (p u : ℕ) → q (to_ascii_uppercase (digit_char (u / p % 16))) ≡ true
place_passes q digits p u = digits (u / p % 16) (omega arith)

escape_passes : (q : ℕ → Bool) → DigitsPass q → q 92 ≡ true → q 117 ≡ true → (u : ℕ) → list_all q (unit_escape u) ≡ true
escape_passes q digits b l u =
    and_from _ _ b (and_from _ _ l (and_from _ _ (place_passes q digits 0x1000 u) (and_from _ _ (place_passes q digits 0x100 u) (and_from _ _ (place_passes q digits 0x10 u) (and_from _ _ (place_passes q digits 1 u) refl)))))

unit_passes : (q : ℕ → Bool) → PlainPass q → DigitsPass q → q 34 ≡ true → q 92 ≡ true → q 117 ≡ true → (u : ℕ) → list_all q (string_unit u) ≡ true
unit_passes q plain digits d b l u = by_plain (is_plain u) refl
  where
    by_backslash : (t : Bool) → list_all q (if t then codes "\\\\" else unit_escape u) ≡ true
    by_backslash true = and_from _ _ b (and_from _ _ b refl)
    by_backslash false = escape_passes q digits b l u

    by_quote : (t : Bool) → list_all q (if t then codes "\\\"" else (if u == 0x5C then codes "\\\\" else unit_escape u)) ≡ true
    by_quote true = and_from _ _ b (and_from _ _ d refl)
    by_quote false = by_backslash (u == 0x5C)

    by_plain : (t : Bool) → is_plain u ≡ t → list_all q (if t then u ∷ [] else (if u == 0x22 then codes "\\\"" else (if u == 0x5C then codes "\\\\" else unit_escape u))) ≡ true
    by_plain true e = and_from _ _ (plain u e) refl
    by_plain false e = by_quote (u == 0x22)

units_pass : (q : ℕ → Bool) → PlainPass q → DigitsPass q → q 34 ≡ true → q 92 ≡ true → q 117 ≡ true → (us : List ℕ) → list_all q (flat_map string_unit us) ≡ true
units_pass q plain digits d b l [] = refl
units_pass q plain digits d b l (u ∷ us) =
    list_all-append q (string_unit u) (flat_map string_unit us) ∙ and_from _ _ (unit_passes q plain digits d b l u) (units_pass q plain digits d b l us)

-- each character of a literal passes, where digits, what stands for itself, `"`, a backslash and `u` do
pub string_passes : (q : ℕ → Bool) → PlainPass q → DigitsPass q → q 34 ≡ true → q 92 ≡ true → q 117 ≡ true → (us : List ℕ) → list_all q (string_text us) ≡ true
string_passes q plain digits d b l us =
    and_from _ _ d (list_all-append q (flat_map string_unit us) (codes "\"") ∙ and_from _ _ (units_pass q plain digits d b l us) (and_from _ _ d refl))
