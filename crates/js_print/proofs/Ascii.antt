-- The text of lexemes is ASCII where names and numbers are.
use Rattle.std.proofs.Common.{◌≡◌, ◌∙◌, ℕ, ◌<◌, Bool, true, false, nat_lt, List, [], ◌∷◌, ◌++◌, refl, arith}
use Rattle.std.specs.List.{list_all}
use Rattle.std.specs.Char.{digit_char, to_ascii_uppercase}
use Rattle.std.proofs.lemmas.Bool.Decides.{nat_tests}
use Rattle.std.proofs.lemmas.List.Elements.{All-weaker}
use Rattle.std.proofs.lemmas.List.Folds.{list_all-append}
use Rattle.std.proofs.lemmas.List.Sums.{AllPass-from_list_all}
use Rattle.std.proofs.lemmas.Bool.{and_from, and_parts}
use Rattle.js_core.specs.declared.token.Punct.{Punct as Sign}
use Rattle.js_core.specs.declared.token.Punct.TheVariants as punct
use Rattle.js_core.specs.declared.keyword.Keyword.{Keyword as Word}
use Rattle.js_core.specs.declared.keyword.Keyword.TheVariants as keyword
use Rattle.js_print.specs.declared.lexeme.Lexeme.{Lexeme}
use Rattle.js_print.specs.declared.lexeme.Lexeme.TheVariants.{Keyword, Name, Number, Text, Punct}
use Rattle.js_print.specs.Laws.{is_ascii_text, is_spelled_in_ascii, TextIsAscii}
use Rattle.js_core.specs.Spelling.{keyword_text, punct_text}
use Rattle.js_print.specs.Spelling.{is_plain, lexeme_text, is_word, space_between, text_after}
use Rattle.js_print.proofs.Literals.{string_passes}

pub keyword_is_ascii : (k : Word) → is_ascii_text (keyword_text k) ≡ true
keyword_is_ascii keyword.Break = refl
keyword_is_ascii k = refl

punct_is_ascii : (p : Sign) → is_ascii_text (punct_text p) ≡ true
punct_is_ascii punct.LeftBrace = refl
punct_is_ascii p = refl

plain_is_ascii : (u : ℕ) → is_plain u ≡ true → nat_lt u 128 ≡ true
plain_is_ascii u h = grind (arith, nat_tests)

digit_is_ascii : (d : ℕ) → d < 16 → nat_lt (to_ascii_uppercase (digit_char d)) 128 ≡ true
digit_is_ascii d l = grind (arith, nat_tests)

pub lexeme_is_ascii : (x : Lexeme) → is_spelled_in_ascii x ≡ true → is_ascii_text (lexeme_text x) ≡ true
lexeme_is_ascii (Keyword k) h = keyword_is_ascii k
lexeme_is_ascii (Name x) h = h
lexeme_is_ascii (Number n) h = h
lexeme_is_ascii (Text x) h = string_passes (λ u. nat_lt u 128) plain_is_ascii digit_is_ascii refl refl refl x
lexeme_is_ascii (Punct p) h = punct_is_ascii p

pub space_is_ascii : (a b : Bool) → is_ascii_text (space_between a b) ≡ true
space_is_ascii true true = refl
space_is_ascii true false = refl
space_is_ascii false b = refl

joined : (a b : List ℕ) → is_ascii_text a ≡ true → is_ascii_text b ≡ true → is_ascii_text (a ++ b) ≡ true
joined a b f g = list_all-append (λ u. nat_lt u 128) a b ∙ and_from _ _ f g

text_is_low : (xs : List Lexeme) (after_word : Bool) → list_all is_spelled_in_ascii xs ≡ true → is_ascii_text (text_after after_word xs) ≡ true
text_is_low [] after_word h = refl
text_is_low (x ∷ xs) after_word h =
    joined (space_between after_word (is_word x)) (lexeme_text x ++ text_after (is_word x) xs) (space_is_ascii after_word (is_word x))
    (joined (lexeme_text x) (text_after (is_word x) xs) (lexeme_is_ascii x (and_parts _ _ h).0) (text_is_low xs (is_word x) (and_parts _ _ h).1))

is_low : (u : ℕ) → nat_lt u 128 ≡ true → u < 128
is_low u e = grind (arith, nat_tests)

pub text_is_ascii : TextIsAscii
text_is_ascii xs h =
    All-weaker (λ u. nat_lt u 128 ≡ true) (λ u. u < 128) is_low (text_after false xs) (AllPass-from_list_all (λ u. nat_lt u 128) (text_after false xs) (text_is_low xs false h))
