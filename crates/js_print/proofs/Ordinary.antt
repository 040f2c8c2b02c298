-- What can be written is ordinary: no identifier and no number has a `<` or a `/`.
use Rattle.std.proofs.Common.{◌≡◌, ◌∙◌, ℕ, pos, ◌+◌, ◌/◌, ◌%◌, ◌<◌, ◌≤◌, Bool, true, false, cond, List, [], ◌∷◌, ◌++◌, length, Option, Some, refl, ap, arith}
use Rattle.std.specs.Prelude.{not, ◌&&◌, ◌==◌, nat_lt, decimal}
use Rattle.std.specs.Char.{is_digit}
use lib.Utf8.{encode}
use Rattle.std.specs.List.{list_all, flat_map}
use Rattle.std.proofs.lemmas.Bool.Decides.{nat_tests}
use Rattle.std.proofs.lemmas.List.Folds.{list_all-append}
use Rattle.std.proofs.lemmas.Bool.{and_from, and_parts}
use Rattle.js_core.specs.LineText.{line_code, line_text}
use Rattle.js_lexer.specs.Characters.{is_identifier_start, is_identifier_part, begins_with}
use Rattle.js_print.specs.declared.lexeme.Lexeme.{Lexeme}
use Rattle.js_print.specs.declared.lexeme.Lexeme.TheVariants.{Keyword, Name, Number, Text, Punct}
use Rattle.js_print.specs.Laws.{is_harmless, is_ordinary}
use Rattle.js_print.specs.ReadBack.{kind_of}
use Rattle.js_print.specs.Spelling.{number_text}
use Rattle.js_print.specs.Written.{can_be_written, is_identifier_name}
use Rattle.js_print.proofs.Decimals.{decimal_has_digits, decimal_is_not_empty}
use Rattle.js_print.proofs.Identifiers.{part_is_harmless}
use Rattle.js_print.proofs.Units.{points_alone, part_code}

-- neither `/` nor `<`
abbrev is_other : ℕ → Bool
is_other u = not (u == 47) && not (u == 60)

no_less : (us : List ℕ) → list_all is_other us ≡ true → list_all (λ v. not (v == 60)) us ≡ true
no_less [] e = refl
no_less (u ∷ us) e = and_from _ _ (and_parts (not (u == 47)) _ (and_parts (is_other u) _ e).0).1 (no_less us (and_parts (is_other u) _ e).1)

others_are_harmless : (us : List ℕ) → begins_with (λ u. true) us ≡ true → list_all is_other us ≡ true → is_harmless us ≡ true
others_are_harmless [] b e = absurd (cc)
others_are_harmless (u ∷ us) b e = and_from _ _ (and_parts (not (u == 47)) _ (and_parts (is_other u) _ e).0).0 (no_less (u ∷ us) e)

-- ---- UTF-8

high_is_other : (b : ℕ) → 128 ≤ b → is_other b ≡ true
high_is_other b l = grind (arith, nat_tests)

abbrev passes : List ℕ → Bool
passes us = begins_with (λ u. true) us && list_all is_other us

either_way : (b : Bool) (xs ys : List ℕ) → passes xs ≡ true → passes ys ≡ true → passes (cond b xs ys) ≡ true
either_way true xs ys f e = f
either_way false xs ys f e = e

two_pass : (a b : ℕ) → 128 ≤ a → 128 ≤ b → passes (a ∷ b ∷ []) ≡ true
two_pass a b l m = and_from _ _ (high_is_other a l) (and_from _ _ (high_is_other b m) refl)

three_pass : (a b c : ℕ) → 128 ≤ a → 128 ≤ b → 128 ≤ c → passes (a ∷ b ∷ c ∷ []) ≡ true
three_pass a b c l m n = and_from _ _ (high_is_other a l) (two_pass b c m n)

four_pass : (a b c d : ℕ) → 128 ≤ a → 128 ≤ b → 128 ≤ c → 128 ≤ d → passes (a ∷ b ∷ c ∷ d ∷ []) ≡ true
four_pass a b c d l m n o = and_from _ _ (high_is_other a l) (three_pass b c d m n o)

encoded_passes : (u : ℕ) → is_other u ≡ true → passes (encode u) ≡ true
unfolding encode
encoded_passes u e =
    let one : passes (u ∷ []) ≡ true = and_from (is_other u) true e refl in
    let two : passes ((192 + u / 64) ∷ (128 + u % 64) ∷ []) ≡ true = two_pass (192 + u / 64) (128 + u % 64) (omega arith) (omega arith) in
    let three : passes ((224 + u / 4096) ∷ (128 + u / 64 % 64) ∷ (128 + u % 64) ∷ []) ≡ true =
    three_pass (224 + u / 4096) (128 + u / 64 % 64) (128 + u % 64) (omega arith) (omega arith) (omega arith) in
    let four : passes ((240 + u / 262144) ∷ (128 + u / 4096 % 64) ∷ (128 + u / 64 % 64) ∷ (128 + u % 64) ∷ []) ≡ true =
    four_pass (240 + u / 262144) (128 + u / 4096 % 64) (128 + u / 64 % 64) (128 + u % 64) (omega arith) (omega arith) (omega arith) (omega arith) in
    either_way (nat_lt u 128) _ _ one (either_way (nat_lt u 2048) _ _ two (either_way (nat_lt u 65536) _ _ three four))

-- ---- names and numbers

code_passes : (u : ℕ) → is_identifier_part u ≡ true → passes (line_code u) ≡ true
code_passes u p = ap passes (part_code u p) ∙ encoded_passes u (part_is_harmless u p)

codes_are_other : (us : List ℕ) → list_all is_identifier_part us ≡ true → list_all is_other (flat_map line_code us) ≡ true
codes_are_other [] p = refl
codes_are_other (u ∷ us) p =
    list_all-append is_other (line_code u) (flat_map line_code us) ∙ and_from _ _ (and_parts _ _ (code_passes u (and_parts _ _ p).0)).1 (codes_are_other us (and_parts (is_identifier_part u) _ p).1)

begun : (us vs : List ℕ) → begins_with (λ u. true) us ≡ true → begins_with (λ u. true) (us ++ vs) ≡ true
begun [] vs e = absurd (cc)
begun (u ∷ us) vs e = refl

codes_begin : (us : List ℕ) → begins_with is_identifier_start us ≡ true → list_all is_identifier_part us ≡ true → begins_with (λ u. true) (flat_map line_code us) ≡ true
codes_begin [] b p = absurd (cc)
codes_begin (u ∷ us) b p = begun (line_code u) (flat_map line_code us) (and_parts _ _ (code_passes u (and_parts _ _ p).0)).0

name_is_ordinary : (x : List ℕ) → is_identifier_name x ≡ true → is_harmless (line_text x) ≡ true
name_is_ordinary x e =
    let parts = (and_parts (begins_with is_identifier_start x) _ e).1 in
    ap (λ us. is_harmless (flat_map line_code us)) (points_alone x parts)
    ∙ others_are_harmless (flat_map line_code x) (codes_begin x (and_parts _ _ e).0 parts) (codes_are_other x parts)

digit_is_other : (u : ℕ) → is_digit u 10 ≡ true → is_other u ≡ true
digit_is_other u e = grind (arith, nat_tests)

digits_are_other : (us : List ℕ) → list_all (λ u. is_digit u 10) us ≡ true → list_all is_other us ≡ true
digits_are_other [] e = refl
digits_are_other (u ∷ us) e = and_from _ _ (digit_is_other u (and_parts _ _ e).0) (digits_are_other us (and_parts _ _ e).1)

some_begins : (us : List ℕ) → 0 < length us → begins_with (λ u. true) us ≡ true
some_begins [] l = absurd (omega arith)
some_begins (u ∷ us) l = refl

number_is_ordinary : (n : Option _) → can_be_written (kind_of (Number n)) ≡ true → is_harmless (number_text n) ≡ true
number_is_ordinary (Some (pos n)) e = others_are_harmless (decimal n) (some_begins (decimal n) (decimal_is_not_empty n e)) (digits_are_other (decimal n) (decimal_has_digits n e))
number_is_ordinary n e = absurd (cc)

pub written_is_ordinary : (x : Lexeme) → can_be_written (kind_of x) ≡ true → is_ordinary x ≡ true
written_is_ordinary (Keyword k) e = refl
written_is_ordinary (Name x) e = name_is_ordinary x (and_parts (is_identifier_name x) _ e).0
written_is_ordinary (Number n) e = number_is_ordinary n e
written_is_ordinary (Text t) e = refl
written_is_ordinary (Punct p) e = refl
