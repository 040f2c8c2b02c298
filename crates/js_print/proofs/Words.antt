-- Words and numbers are read back.
use Rattle.std.proofs.Common.{◌≡◌, ◌∙◌, ℕ, zero, suc, pos, ◌<◌, ◌≤◌, Bool, true, false, List, [], ◌∷◌, ◌++◌, length, get_or, Some, None, refl, ap, arith}
use Rattle.std.specs.Prelude.{◌==◌, nat_le, decimal}
use Rattle.std.specs.Char.{is_digit}
use Rattle.std.specs.Int.{is_in_range}
use Rattle.std.specs.List.{list_all}
use Rattle.std.specs.Str.Parse.{digits_value}
use Rattle.std.proofs.lemmas.Bool.Decides.{nat_tests}
use Rattle.std.proofs.lemmas.Bool.{and_from, and_parts}
use Rattle.js_core.specs.Characters.{is_white_space, is_line_end}
use Rattle.js_core.specs.Spelling.{keyword_text}
use Rattle.js_core.specs.Whole.{largest}
use Rattle.js_core.specs.declared.keyword.Keyword.{Keyword}
use Rattle.js_core.specs.declared.keyword.Keyword.TheVariants as keyword
use Rattle.js_core.specs.declared.token.TokenKind.TheVariants as kind
use Rattle.js_lexer.specs.Characters.{is_identifier_start, is_identifier_part, is_decimal_digit, begins_with}
use Rattle.js_lexer.specs.Numbers.{value_of, is_refused_behind_number}
use Rattle.js_lexer.specs.Separators.{separator_of}
use Rattle.js_lexer.specs.Tokens.{TokenAt}
use Rattle.js_lexer.specs.Tokens.TokenAt.{word, number}
use Rattle.js_lexer.proofs.Callers.{start_of_ascii, start_is_part}
use Rattle.js_print.specs.Written.{is_identifier_name}
use Rattle.js_print.proofs.Decimals.{decimal_has_digits, decimal_writes, decimal_is_not_empty, zero_is, first_is_not_zero}
use Rattle.js_print.proofs.Identifiers.{start_is_no_space}

-- ---- reserved words

abbrev is_letter : ℕ → Bool
is_letter u = is_in_range 97 122 u

letter_is_start : (u : ℕ) → is_letter u ≡ true → is_identifier_start u ≡ true
letter_is_start u e =
    let low : u < 128 = grind (arith, nat_tests) in
    start_of_ascii u low ∙ grind (arith, nat_tests)

letters_are_parts : (us : List ℕ) → list_all is_letter us ≡ true → list_all is_identifier_part us ≡ true
letters_are_parts [] e = refl
letters_are_parts (u ∷ us) e = and_from _ _ (start_is_part u (letter_is_start u (and_parts _ _ e).0)) (letters_are_parts us (and_parts (is_letter u) _ e).1)

letters_begin : (us : List ℕ) → begins_with is_letter us ≡ true → begins_with is_identifier_start us ≡ true
letters_begin [] e = absurd (cc)
letters_begin (u ∷ us) e = letter_is_start u e

keyword_begins : (k : Keyword) → begins_with is_letter (keyword_text k) ≡ true
keyword_begins keyword.Break = refl
keyword_begins k = refl

keyword_has_letters : (k : Keyword) → list_all is_letter (keyword_text k) ≡ true
keyword_has_letters keyword.Break = refl
keyword_has_letters k = refl

pub keyword_is_name : (k : Keyword) → is_identifier_name (keyword_text k) ≡ true
keyword_is_name k = and_from _ _ (letters_begin _ (keyword_begins k)) (letters_are_parts _ (keyword_has_letters k))

-- ---- words

pub word_stands : (w rest : List ℕ) → is_identifier_name w ≡ true → begins_with is_identifier_part rest ≡ false → TokenAt (w ++ rest) rest (kind.Word w)
word_stands w rest e ends = word (w ++ rest) w rest (record { joined = refl; starts = (and_parts _ _ e).0; goes_on = (and_parts (begins_with is_identifier_start w) _ e).1; ends = ends })

pub no_gap_before_start : (us rest : List ℕ) → begins_with is_identifier_start us ≡ true → separator_of (us ++ rest) ≡ None
unfolding separator_of
no_gap_before_start [] rest e = absurd (cc)
no_gap_before_start (u ∷ us) rest e = let facts = start_is_no_space u e in rw (facts.0, facts.1, facts.2) refl

-- ---- numbers

value_of_digits : (ds : List ℕ) → list_all (λ u. is_digit u 10) ds ≡ true → 48 < get_or ds 0 0 → value_of ds ≡ Some (digits_value 10 ds)
unfolding value_of
value_of_digits [] e l = absurd (omega arith)
value_of_digits (u ∷ us) e l = let other : (u == 48) ≡ false = grind (arith, nat_tests) in rw (other, e) refl

value_of_zero : value_of (48 ∷ []) ≡ Some 0
unfolding value_of
value_of_zero = refl

value_of_decimal : (n : ℕ) → nat_le n largest ≡ true → value_of (decimal n) ≡ Some n
value_of_decimal zero e = ap value_of zero_is ∙ value_of_zero
value_of_decimal (suc n) e =
    value_of_digits (decimal (suc n)) (decimal_has_digits (suc n) e) (first_is_not_zero (suc n) (omega arith) e) ∙ ap Some (decimal_writes (suc n) e)

pub number_stands : (n : ℕ) (rest : List ℕ) → nat_le n largest ≡ true → begins_with is_refused_behind_number rest ≡ false → TokenAt (decimal n ++ rest) rest (kind.Number (Some (pos n)))
number_stands n rest e ends =
    let small : n ≤ largest = grind (arith, nat_tests) in
    number (decimal n ++ rest) rest n (record { units = decimal n; joined = refl; writes = value_of_decimal n e; in_range = small; ends = ends })

digits_begin : (ds : List ℕ) → list_all (λ u. is_digit u 10) ds ≡ true → 0 < length ds → begins_with is_decimal_digit ds ≡ true
digits_begin [] e l = absurd (omega arith)
digits_begin (u ∷ us) e l = (and_parts _ _ e).0

pub decimal_begins : (n : ℕ) → nat_le n largest ≡ true → begins_with is_decimal_digit (decimal n) ≡ true
decimal_begins n e = digits_begin (decimal n) (decimal_has_digits n e) (decimal_is_not_empty n e)

pub no_gap_before_digit : (us rest : List ℕ) → begins_with is_decimal_digit us ≡ true → separator_of (us ++ rest) ≡ None
unfolding separator_of is_white_space is_line_end
no_gap_before_digit [] rest e = absurd (cc)
no_gap_before_digit (u ∷ us) rest e =
    let white : is_white_space u ≡ false = grind (arith, nat_tests) in
    let line : is_line_end u ≡ false = grind (arith, nat_tests) in
    let slash : (u == 47) ≡ false = grind (arith, nat_tests) in
    rw (white, line, slash) refl
