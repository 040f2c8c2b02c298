-- No unit of a printed text is a control character or a surrogate.
use Rattle.std.proofs.Common.{◌≡◌, ◌∙◌, ℕ, pos, ◌<◌, Bool, true, false, List, [], ◌∷◌, ◌++◌, Option, Some, refl, ap, arith}
use Rattle.std.specs.Prelude.{not, ◌&&◌, decimal}
use Rattle.std.specs.Char.{is_digit, digit_char, to_ascii_uppercase}
use Rattle.std.specs.List.{list_all}
use Rattle.std.proofs.lemmas.Bool.Decides.{nat_tests}
use Rattle.std.proofs.lemmas.List.Folds.{list_all-append}
use Rattle.std.proofs.lemmas.Bool.{and_from, and_parts}
use Rattle.js_core.specs.LineText.{is_escaped}
use Rattle.js_core.specs.Spelling.{keyword_text, punct_text}
use Rattle.js_core.specs.declared.keyword.Keyword.{Keyword as Word}
use Rattle.js_core.specs.declared.keyword.Keyword.TheVariants as keyword
use Rattle.js_core.specs.declared.token.Punct.{Punct as Sign}
use Rattle.js_core.specs.declared.token.Punct.TheVariants as punct
use Rattle.js_lexer.specs.Characters.{is_identifier_part}
use Rattle.js_lexer.specs.Written.{can_be_written, is_identifier_name}
use Rattle.js_print.specs.declared.lexeme.Lexeme.{Lexeme}
use Rattle.js_print.specs.declared.lexeme.Lexeme.TheVariants.{Keyword, Name, Number, Text, Punct}
use Rattle.js_print.specs.Laws.{HasNoControl, is_free}
use Rattle.js_print.specs.ReadBack.{kind_of}
use Rattle.js_print.specs.Spelling.{is_plain, is_word, space_between, text_after}
use Rattle.js_print.proofs.Decimals.{decimal_has_digits}
use Rattle.js_print.proofs.Identifiers.{part_stands_for_itself}
use Rattle.js_print.proofs.Literals.{string_passes}
use Rattle.js_print.proofs.Units.{lexeme_units, units_after, are_written, units_of_text}

keyword_is_free : (k : Word) → list_all is_free (keyword_text k) ≡ true
keyword_is_free keyword.Break = refl
keyword_is_free k = refl

punct_is_free : (p : Sign) → list_all is_free (punct_text p) ≡ true
punct_is_free punct.LeftBrace = refl
punct_is_free p = refl

plain_is_free : (u : ℕ) → is_plain u ≡ true → is_free u ≡ true
plain_is_free u e = grind (arith, nat_tests)

hex_digit_is_free : (d : ℕ) → d < 16 → is_free (to_ascii_uppercase (digit_char d)) ≡ true
hex_digit_is_free d l = grind (arith, nat_tests)

digit_is_free : (u : ℕ) → is_digit u 10 ≡ true → is_free u ≡ true
digit_is_free u e = grind (arith, nat_tests)

part_is_free : (u : ℕ) → is_identifier_part u ≡ true → is_free u ≡ true
part_is_free u e = ap not (part_stands_for_itself u e).1

each_passes : (p q : ℕ → Bool) → ((u : ℕ) → p u ≡ true → q u ≡ true) → (us : List ℕ) → list_all p us ≡ true → list_all q us ≡ true
each_passes p q f [] e = refl
each_passes p q f (u ∷ us) e = and_from _ _ (f u (and_parts _ _ e).0) (each_passes p q f us (and_parts (p u) _ e).1)

number_is_free : (n : Option _) → can_be_written (kind_of (Number n)) ≡ true → list_all is_free (lexeme_units (Number n)) ≡ true
number_is_free (Some (pos n)) w = each_passes (λ u. is_digit u 10) is_free digit_is_free (decimal n) (decimal_has_digits n w)
number_is_free n w = absurd (cc)

pub lexeme_is_free : (x : Lexeme) → can_be_written (kind_of x) ≡ true → list_all is_free (lexeme_units x) ≡ true
lexeme_is_free (Keyword k) w = keyword_is_free k
lexeme_is_free (Name x) w = each_passes is_identifier_part is_free part_is_free x (and_parts _ _ (and_parts (is_identifier_name x) _ w).0).1
lexeme_is_free (Number n) w = number_is_free n w
lexeme_is_free (Text x) w = string_passes is_free plain_is_free hex_digit_is_free refl refl refl x
lexeme_is_free (Punct p) w = punct_is_free p

pub space_is_free : (a b : Bool) → list_all is_free (space_between a b) ≡ true
space_is_free true true = refl
space_is_free true false = refl
space_is_free false b = refl

joined : (a b : List ℕ) → list_all is_free a ≡ true → list_all is_free b ≡ true → list_all is_free (a ++ b) ≡ true
joined a b f g = list_all-append is_free a b ∙ and_from _ _ f g

units_are_free : (xs : List Lexeme) (after_word : Bool) → are_written xs ≡ true → list_all is_free (units_after after_word xs) ≡ true
units_are_free [] after_word w = refl
units_are_free (x ∷ xs) after_word w =
    joined (space_between after_word (is_word x)) _ (space_is_free after_word (is_word x))
    (joined (lexeme_units x) (units_after (is_word x) xs) (lexeme_is_free x (and_parts _ _ w).0) (units_are_free xs (is_word x) (and_parts _ _ w).1))

pub written_has_no_control : (xs : List Lexeme) → are_written xs ≡ true → HasNoControl (text_after false xs)
written_has_no_control xs w = ap (list_all is_free) (units_of_text xs w) ∙ units_are_free xs false w
