-- The units of a printed text, of which it is the UTF-8.
use Rattle.std.proofs.Common.{◌≡◌, ◌∙◌, ℕ, pos, ◌<◌, Bool, true, false, List, [], ◌∷◌, ◌++◌, Option, Some, refl, sym, ap, arith}
use Rattle.std.specs.Prelude.{◌&&◌, ◌||◌, nat_lt, nat_le, encode_utf8, encode_utf8_all, IsUtf8, decimal}
use Rattle.std.specs.Char.{is_digit}
use lib.Utf8.{scalar, scalars}
use Rattle.std.specs.Char.Escape.{encode_utf16}
use Rattle.std.specs.Char.Utf16.{is_high_surrogate}
use Rattle.std.specs.List.{list_all, flat_map}
use Rattle.std.proofs.lemmas.Bool.Decides.{nat_tests}
use Rattle.std.proofs.lemmas.List.Folds.{list_all-append}
use Rattle.std.proofs.lemmas.Str.{chars-encodes, encodes-append, encode_ascii}
use Rattle.std.proofs.lemmas.Bool.{and_from, and_parts}
use Rattle.js_core.specs.LineText.{code_points, line_code}
use Rattle.js_core.specs.Text.{utf16_of}
use Rattle.js_lexer.specs.Characters.{is_surrogate, is_identifier_part}
use Rattle.js_print.specs.declared.lexeme.Lexeme.{Lexeme}
use Rattle.js_print.specs.declared.lexeme.Lexeme.TheVariants.{Keyword, Name, Number, Text, Punct}
use Rattle.js_print.specs.Laws.{is_ascii_text}
use Rattle.js_print.specs.ReadBack.{kind_of}
use Rattle.js_print.specs.Spelling.{lexeme_text, is_word, space_between, text_after}
use Rattle.js_print.specs.Written.{is_unit, can_be_written, is_identifier_name}
use Rattle.js_print.proofs.Ascii.{lexeme_is_ascii, space_is_ascii}
use Rattle.js_print.proofs.Decimals.{decimal_has_digits}
use Rattle.js_print.proofs.Identifiers.{part_stands_for_itself}

-- a lexeme in units
abbrev pub lexeme_units : Lexeme → List ℕ
lexeme_units (Name x) = x
lexeme_units x = lexeme_text x

-- lexemes in units, where the one before them is a word or not
abbrev pub units_after : Bool → List Lexeme → List ℕ
units_after after_word [] = []
units_after after_word (x ∷ xs) = space_between after_word (is_word x) ++ (lexeme_units x ++ units_after (is_word x) xs)

abbrev pub are_written : List Lexeme → Bool
are_written xs = list_all (λ x. can_be_written (kind_of x)) xs

-- a unit that is a character by itself
abbrev pub is_single : ℕ → Bool
is_single u = nat_lt u 0xD800 || (nat_le 0xE000 u && nat_lt u 0x10000)

-- bytes that are the UTF-8 of units
pub record Coded (text units : List ℕ) : Type 0 where
  pub single : list_all is_single units ≡ true
  pub coded : text ≡ encode_utf8_all units

pub both_coded : (t u s v : List ℕ) → Coded t u → Coded s v → Coded (t ++ s) (u ++ v)
both_coded t u s v a b = record {
  single = list_all-append is_single u v ∙ and_from _ _ a.single b.single;
  coded = ap (λ x. x ++ s) a.coded ∙ ap (λ x. encode_utf8_all u ++ x) b.coded ∙ sym (encodes-append u v);
}

-- ---- ASCII

low_is_single : (u : ℕ) → nat_lt u 128 ≡ true → is_single u ≡ true
low_is_single u e = grind (arith, nat_tests)

low_is_one : (u : ℕ) → nat_lt u 128 ≡ true → encode_utf8 u ≡ u ∷ []
low_is_one u e = let l : u < 128 = grind (arith, nat_tests) in encode_ascii u l

pub ascii_is_coded : (us : List ℕ) → is_ascii_text us ≡ true → Coded us us
ascii_is_coded [] e = record { single = refl; coded = refl }
ascii_is_coded (u ∷ us) e =
    let l = (and_parts (nat_lt u 128) _ e).0 in
    let more = ascii_is_coded us (and_parts (nat_lt u 128) _ e).1 in
    record { single = and_from _ _ (low_is_single u l) more.single; coded = ap (λ x. u ∷ x) more.coded ∙ ap (λ x. x ++ encode_utf8_all us) (sym (low_is_one u l)) }

digit_is_low : (u : ℕ) → is_digit u 10 ≡ true → nat_lt u 128 ≡ true
digit_is_low u e = grind (arith, nat_tests)

pub digits_are_low : (us : List ℕ) → list_all (λ u. is_digit u 10) us ≡ true → is_ascii_text us ≡ true
digits_are_low [] e = refl
digits_are_low (u ∷ us) e = and_from _ _ (digit_is_low u (and_parts _ _ e).0) (digits_are_low us (and_parts _ _ e).1)

-- ---- names

no_high : (u : ℕ) → is_surrogate u ≡ false → is_high_surrogate u ≡ false
no_high u e = grind (arith, nat_tests)

other_is_single : (u : ℕ) → is_surrogate u ≡ false → is_unit u ≡ true → is_single u ≡ true
other_is_single u s l = grind (arith, nat_tests)

pub points_alone : (us : List ℕ) → list_all is_identifier_part us ≡ true → code_points us ≡ us
points_alone [] e = refl
points_alone (u ∷ []) e = refl
points_alone (u ∷ v ∷ us) e =
    let none = no_high u (part_stands_for_itself u (and_parts _ _ e).0).0 in
    rw none (ap (λ x. u ∷ x) (points_alone (v ∷ us) (and_parts (is_identifier_part u) _ e).1))

pub part_code : (u : ℕ) → is_identifier_part u ≡ true → line_code u ≡ encode_utf8 u
part_code u p = let facts = part_stands_for_itself u p in rw (facts.2, facts.1) refl

name_is_coded : (us : List ℕ) → list_all is_identifier_part us ≡ true → list_all is_unit us ≡ true → Coded (flat_map line_code us) us
name_is_coded [] p l = record { single = refl; coded = refl }
name_is_coded (u ∷ us) p l =
    let part = (and_parts (is_identifier_part u) _ p).0 in
    let more = name_is_coded us (and_parts (is_identifier_part u) _ p).1 (and_parts (is_unit u) _ l).1 in
    record {
      single = and_from _ _ (other_is_single u (part_stands_for_itself u part).0 (and_parts (is_unit u) _ l).0) more.single;
      coded = ap (λ x. x ++ flat_map line_code us) (part_code u part) ∙ ap (λ x. encode_utf8 u ++ x) more.coded;
    }

-- ---- lexemes

number_is_coded : (n : Option _) → can_be_written (kind_of (Number n)) ≡ true → Coded (lexeme_text (Number n)) (lexeme_units (Number n))
number_is_coded (Some (pos n)) w = ascii_is_coded (decimal n) (digits_are_low (decimal n) (decimal_has_digits n w))
number_is_coded n w = absurd (cc)

pub lexeme_is_coded : (x : Lexeme) → can_be_written (kind_of x) ≡ true → Coded (lexeme_text x) (lexeme_units x)
lexeme_is_coded (Keyword k) w = ascii_is_coded _ (lexeme_is_ascii (Keyword k) refl)
lexeme_is_coded (Name x) w =
    let parts = (and_parts _ _ (and_parts (is_identifier_name x) _ w).0).1 in
    let c = name_is_coded x parts (and_parts (is_identifier_name x) _ w).1 in
    record { single = c.single; coded = ap (flat_map line_code) (points_alone x parts) ∙ c.coded }
lexeme_is_coded (Number n) w = number_is_coded n w
lexeme_is_coded (Text x) w = ascii_is_coded _ (lexeme_is_ascii (Text x) refl)
lexeme_is_coded (Punct p) w = ascii_is_coded _ (lexeme_is_ascii (Punct p) refl)

pub text_is_coded : (xs : List Lexeme) (after_word : Bool) → are_written xs ≡ true → Coded (text_after after_word xs) (units_after after_word xs)
text_is_coded [] after_word w = record { single = refl; coded = refl }
text_is_coded (x ∷ xs) after_word w =
    both_coded (space_between after_word (is_word x)) (space_between after_word (is_word x)) _ _ (ascii_is_coded _ (space_is_ascii after_word (is_word x)))
    (both_coded (lexeme_text x) (lexeme_units x) _ _ (lexeme_is_coded x (and_parts _ _ w).0) (text_is_coded xs (is_word x) (and_parts _ _ w).1))

-- ---- UTF-8 and UTF-16

single_is_scalar : (u : ℕ) → is_single u ≡ true → scalar u ≡ true
single_is_scalar u e = grind (arith, nat_tests)

pub all_scalars : (us : List ℕ) → list_all is_single us ≡ true → scalars us ≡ true
all_scalars [] e = refl
all_scalars (u ∷ us) e = and_from _ _ (single_is_scalar u (and_parts _ _ e).0) (all_scalars us (and_parts _ _ e).1)

single_is_unit : (u : ℕ) → is_single u ≡ true → nat_lt u 0x10000 ≡ true
single_is_unit u e = grind (arith, nat_tests)

one_unit : (u : ℕ) → is_single u ≡ true → encode_utf16 u ≡ u ∷ []
one_unit u e = let l = single_is_unit u e in rw l refl

pub units_alone : (us : List ℕ) → list_all is_single us ≡ true → flat_map encode_utf16 us ≡ us
units_alone [] e = refl
units_alone (u ∷ us) e = ap (λ x. x ++ flat_map encode_utf16 us) (one_unit u (and_parts _ _ e).0) ∙ ap (λ x. u ∷ x) (units_alone us (and_parts (is_single u) _ e).1)

pub text_is_utf8 : (xs : List Lexeme) → are_written xs ≡ true → IsUtf8 (text_after false xs)
text_is_utf8 xs w = let c = text_is_coded xs false w in (units_after false xs, (all_scalars (units_after false xs) c.single, sym c.coded))

pub units_of_text : (xs : List Lexeme) → are_written xs ≡ true → utf16_of (text_after false xs) ≡ units_after false xs
units_of_text xs w =
    let c = text_is_coded xs false w in
    ap utf16_of c.coded ∙ ap (flat_map encode_utf16) (chars-encodes (units_after false xs) (all_scalars (units_after false xs) c.single)) ∙ units_alone (units_after false xs) c.single
