-- Texts and lists of lexemes in which no `<` stands before a `/`.
use Rattle.std.proofs.Common.{◌≡◌, ◌≢◌, ◌∙◌, ℕ, ◌<◌, Bool, true, false, List, [], ◌∷◌, ◌++◌, refl, sym, ap, arith}
use Rattle.std.specs.Prelude.{not, ◌&&◌, ◌==◌, codes}
use Rattle.std.specs.List.{list_all}
use Rattle.std.specs.Char.{digit_char, to_ascii_uppercase}
use Rattle.std.proofs.lemmas.Bool.Decides.{nat_tests}
use Rattle.std.proofs.lemmas.Bool.{and_parts}
use Rattle.js_core.specs.declared.token.Punct.{Punct as Sign}
use Rattle.js_core.specs.declared.token.Punct.TheVariants as punct
use Rattle.js_core.specs.declared.keyword.Keyword.{Keyword as Word}
use Rattle.js_core.specs.declared.keyword.Keyword.TheVariants as keyword
use Rattle.js_print.specs.declared.lexeme.Lexeme.{Lexeme}
use Rattle.js_print.specs.declared.lexeme.Lexeme.TheVariants.{Keyword, Name, Number, Text, Punct}
use Rattle.js_print.proofs.Literals.{string_passes}
use Rattle.js_print.proofs.Neighbours.{calm, start, begins_with_slash, ends_with_less, no_slash_behind_less}
use Rattle.js_print.specs.Laws.{HasNoEndTag, is_harmless, is_ordinary}
use Rattle.js_core.specs.Spelling.{keyword_text, punct_text}
use Rattle.js_print.specs.Spelling.{string_text, lexeme_text, is_word, space_between, text_after}

-- ---- texts

-- no `<` stands before a `/`, where the unit before the text is a `<` or not
abbrev pub scan : Bool → List ℕ → Bool
scan less [] = true
scan less (u ∷ us) = not (less && (u == 47)) && scan (u == 60) us

pub no_tag : (less : Bool) (text before after : List ℕ) → scan less text ≡ true → text ≢ before ++ (codes "</" ++ after)
no_tag less [] [] after h e = absurd (cc)
no_tag less [] (b ∷ before) after h e = absurd (cc)
no_tag less (u ∷ us) [] after h e = clash less u us after h e
  where
    clash : (less : Bool) (u : ℕ) (us after : List ℕ) → scan less (u ∷ us) ≡ true → u ∷ us ≡ 60 ∷ 47 ∷ after → ⊥
    clash less u us after h e =
        let s = ap (scan less) e in
        let t : scan less (60 ∷ 47 ∷ after) ≡ true = sym s ∙ h in
        no less t
      where
        no : (less : Bool) → scan less (60 ∷ 47 ∷ after) ≡ true → ⊥
        no true t = absurd (cc)
        no false t = absurd (cc)
no_tag less (u ∷ us) (b ∷ before) after h e =
    let heads : u ≡ b = cc in
    let tails : us ≡ before ++ (codes "</" ++ after) = cc in
    no_tag (u == 60) us before after (and_parts (not (less && (u == 47))) (scan (u == 60) us) h).1 tails

one_free : (is_less more : Bool) (text : List ℕ) → (not is_less && more) ≡ true → (more ≡ true → scan false text ≡ true) → scan is_less text ≡ true
one_free true more text f g = absurd (cc)
one_free false more text f g = g f

-- a text without `<`, behind what is no `<`
free_scan : (text rest : List ℕ) → list_all (λ u. not (u == 60)) text ≡ true → scan false rest ≡ true → scan false (text ++ rest) ≡ true
free_scan [] rest f h = h
free_scan (u ∷ us) rest f h = one_free (u == 60) (list_all (λ v. not (v == 60)) us) (us ++ rest) f (λ g. free_scan us rest g h)

-- no end tag begins where no `/` stands
pub untagged : (less slash more : Bool) → not slash ≡ true → more ≡ true → (not (less && slash) && more) ≡ true
untagged true true more n g = absurd (cc)
untagged true false more n g = g
untagged false slash more n g = g

harmless_scan : (less : Bool) (text rest : List ℕ) → is_harmless text ≡ true → scan false rest ≡ true → scan less (text ++ rest) ≡ true
harmless_scan less [] rest f h = absurd (cc)
harmless_scan less (u ∷ us) rest f h =
    let free = free_scan (u ∷ us) rest (and_parts _ _ f).1 h in
    untagged less (u == 47) (scan (u == 60) (us ++ rest)) (and_parts _ _ f).0 free

keyword_is_harmless : (k : Word) → is_harmless (keyword_text k) ≡ true
keyword_is_harmless keyword.Break = refl
keyword_is_harmless k = refl

digit_is_other : (d : ℕ) → d < 16 → not (to_ascii_uppercase (digit_char d) == 60) ≡ true
digit_is_other d l = grind (arith, nat_tests)

string_is_harmless : (us : List ℕ) → is_harmless (string_text us) ≡ true
string_is_harmless us = string_passes (λ v. not (v == 60)) (λ u h. (and_parts _ _ h).1) digit_is_other refl refl refl us

-- ---- lexemes

punct_behind_less : (p : Sign) (rest : List ℕ) → not (begins_with_slash (Punct p)) ≡ true → scan (ends_with_less (Punct p)) rest ≡ true → scan true (punct_text p ++ rest) ≡ true
punct_behind_less punct.Slash rest n h = absurd (cc)
punct_behind_less punct.SlashAssign rest n h = absurd (cc)
punct_behind_less p rest n h = h

punct_behind_other : (p : Sign) (rest : List ℕ) → scan (ends_with_less (Punct p)) rest ≡ true → scan false (punct_text p ++ rest) ≡ true
punct_behind_other punct.LeftBrace rest h = h
punct_behind_other p rest h = h

punct_scan : (p : Sign) (less : Bool) (rest : List ℕ) → not (less && begins_with_slash (Punct p)) ≡ true → scan (ends_with_less (Punct p)) rest ≡ true → scan less (punct_text p ++ rest) ≡ true
punct_scan p true rest n h = punct_behind_less p rest n h
punct_scan p false rest n h = punct_behind_other p rest h

pub lexeme_scan : (x : Lexeme) (less : Bool) (rest : List ℕ) → is_ordinary x ≡ true → not (less && begins_with_slash x) ≡ true → scan (ends_with_less x) rest ≡ true → scan less (lexeme_text x ++ rest) ≡ true
lexeme_scan (Keyword k) less rest o n h = harmless_scan less (keyword_text k) rest (keyword_is_harmless k) h
lexeme_scan (Name x) less rest o n h = harmless_scan less (lexeme_text (Name x)) rest o h
lexeme_scan (Number z) less rest o n h = harmless_scan less (lexeme_text (Number z)) rest o h
lexeme_scan (Text x) less rest o n h = harmless_scan less (string_text x) rest (string_is_harmless x) h
lexeme_scan (Punct p) less rest o n h = punct_scan p less rest n h

-- a lexeme behind the space that it needs or not
pub spaced_scan : (x : Lexeme) (after_word less : Bool) (rest : List ℕ) → is_ordinary x ≡ true → not (less && begins_with_slash x) ≡ true → scan (ends_with_less x) rest ≡ true → scan less (space_between after_word (is_word x) ++ (lexeme_text x ++ rest)) ≡ true
spaced_scan x after_word less rest o n h = by_words after_word (is_word x)
  where
    by_words : (a b : Bool) → scan less (space_between a b ++ (lexeme_text x ++ rest)) ≡ true
    by_words true true = untagged less false (scan false (lexeme_text x ++ rest)) refl (lexeme_scan x false rest o refl h)
    by_words true false = lexeme_scan x less rest o n h
    by_words false b = lexeme_scan x less rest o n h

lexemes_scan : (xs : List Lexeme) (before : Lexeme) (after_word : Bool) → list_all is_ordinary xs ≡ true → calm before xs ≡ true → scan (ends_with_less before) (text_after after_word xs) ≡ true
lexemes_scan [] before after_word o c = refl
lexemes_scan (x ∷ xs) before after_word o c =
    spaced_scan x after_word (ends_with_less before) (text_after (is_word x) xs) (and_parts _ _ o).0 (no_slash_behind_less before x (and_parts _ _ c).0)
    (lexemes_scan xs x (is_word x) (and_parts _ _ o).1 (and_parts _ _ c).1)

pub calm_has_no_tag : (xs : List Lexeme) → list_all is_ordinary xs ≡ true → calm start xs ≡ true → HasNoEndTag (text_after false xs)
calm_has_no_tag xs o c before after e = no_tag false (text_after false xs) before after (lexemes_scan xs start false o c) e
