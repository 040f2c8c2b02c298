-- Which lexemes may stand next to each other: the second makes no longer token, no comment and no `</` with the first.
use Rattle.std.proofs.Common.{◌≡◌, ℕ, Bool, true, false, List, [], ◌∷◌, refl}
use Rattle.std.specs.Prelude.{not, ◌&&◌, ◌==◌, codes}
use Rattle.std.specs.List.{list_any}
use Rattle.std.proofs.lemmas.Bool.{and_from, and_parts}
use Rattle.js_core.specs.declared.token.Punct.TheVariants as punct
use Rattle.js_core.specs.Spelling.{punct_text}
use Rattle.js_lexer.specs.Characters.{begins_with}
use Rattle.js_print.specs.declared.lexeme.Lexeme.{Lexeme}
use Rattle.js_print.specs.declared.lexeme.Lexeme.TheVariants.{Keyword, Name, Number, Text, Punct}

-- the units with which no punctuator behind the lexeme may begin
abbrev pub refused_behind : Lexeme → List ℕ
refused_behind (Number n) = codes "."
refused_behind (Punct punct.LessThan) = codes "<=/"
refused_behind (Punct punct.GreaterThan) = codes ">="
refused_behind (Punct punct.Equals) = codes "="
refused_behind (Punct punct.NotEquals) = codes "="
refused_behind (Punct punct.PlusSign) = codes "+="
refused_behind (Punct punct.MinusSign) = codes "-="
refused_behind (Punct punct.Star) = codes "="
refused_behind (Punct punct.Percent) = codes "="
refused_behind (Punct punct.ShiftLeft) = codes "=/"
refused_behind (Punct punct.ShiftRight) = codes ">="
refused_behind (Punct punct.ShiftRightUnsigned) = codes "="
refused_behind (Punct punct.Ampersand) = codes "&="
refused_behind (Punct punct.VerticalBar) = codes "|="
refused_behind (Punct punct.Caret) = codes "="
refused_behind (Punct punct.ExclamationMark) = codes "="
refused_behind (Punct punct.SimpleAssign) = codes "="
refused_behind (Punct punct.Slash) = codes "=/*"
refused_behind x = []

abbrev pub has : List ℕ → ℕ → Bool
has us u = list_any (λ v. u == v) us

-- the second may stand behind the first
abbrev pub meets : Lexeme → Lexeme → Bool
meets x (Punct p) = not (begins_with (has (refused_behind x)) (punct_text p))
meets x y = true

-- each may stand behind the one before it, the first behind the given one
abbrev pub calm : Lexeme → List Lexeme → Bool
calm x [] = true
calm x (y ∷ ys) = meets x y && calm y ys

abbrev pub is_point : Lexeme → Bool
is_point (Punct punct.Dot) = true
is_point x = false

abbrev pub is_empty : List ℕ → Bool
is_empty [] = true
is_empty us = false

-- every other may stand behind it, and it is no `.`, which a number may not have behind it
abbrev pub is_settled : Lexeme → Bool
is_settled x = is_empty (refused_behind x) && not (is_point x)

-- one behind which every other may stand
abbrev pub start : Lexeme
start = Punct punct.Semicolon

none_refused : (us text : List ℕ) → is_empty us ≡ true → not (begins_with (has us) text) ≡ true
none_refused [] [] e = refl
none_refused [] (u ∷ us) e = refl
none_refused (v ∷ vs) text e = absurd (cc)

pub free_meets : (x y : Lexeme) → is_empty (refused_behind x) ≡ true → meets x y ≡ true
free_meets x (Keyword k) e = refl
free_meets x (Name w) e = refl
free_meets x (Number n) e = refl
free_meets x (Text t) e = refl
free_meets x (Punct p) e = none_refused (refused_behind x) (punct_text p) e

pub behind_free : (x : Lexeme) (ys : List Lexeme) → is_empty (refused_behind x) ≡ true → calm start ys ≡ true → calm x ys ≡ true
behind_free x [] e h = refl
behind_free x (y ∷ ys) e h = and_from _ _ (free_meets x y e) (and_parts _ _ h).1

abbrev pub begins_with_point : List Lexeme → Bool
begins_with_point [] = false
begins_with_point (x ∷ xs) = is_point x

number_meets : (n : _) (y : Lexeme) → is_point y ≡ false → meets (Number n) y ≡ true
number_meets n (Punct punct.Dot) e = absurd (cc)
number_meets n (Punct p) e = refl
number_meets n y e = refl

pub behind_number : (n : _) (ys : List Lexeme) → begins_with_point ys ≡ false → calm start ys ≡ true → calm (Number n) ys ≡ true
behind_number n [] e h = refl
behind_number n (y ∷ ys) e h = and_from _ _ (number_meets n y e) (and_parts _ _ h).1

-- ---- what operands begin with

-- a word, a string, `(` or `[`
abbrev pub is_mild : Lexeme → Bool
is_mild (Punct punct.LeftParenthesis) = true
is_mild (Punct punct.LeftBracket) = true
is_mild (Punct p) = false
is_mild x = true

parenthesis_is_mild : (x : Lexeme) → meets x (Punct punct.LeftParenthesis) ≡ true
parenthesis_is_mild (Punct punct.LessThan) = refl
parenthesis_is_mild (Punct p) = refl
parenthesis_is_mild x = refl

bracket_is_mild : (x : Lexeme) → meets x (Punct punct.LeftBracket) ≡ true
bracket_is_mild (Punct punct.LessThan) = refl
bracket_is_mild (Punct p) = refl
bracket_is_mild x = refl

pub mild_meets : (x y : Lexeme) → is_mild y ≡ true → meets x y ≡ true
mild_meets x (Punct punct.LeftParenthesis) e = parenthesis_is_mild x
mild_meets x (Punct punct.LeftBracket) e = bracket_is_mild x
mild_meets x (Punct p) e = absurd (cc)
mild_meets x y e = refl

-- ---- `<` and `/`

-- it begins with `/`
abbrev pub begins_with_slash : Lexeme → Bool
begins_with_slash (Punct punct.Slash) = true
begins_with_slash (Punct punct.SlashAssign) = true
begins_with_slash x = false

-- it ends with `<`
abbrev pub ends_with_less : Lexeme → Bool
ends_with_less (Punct punct.LessThan) = true
ends_with_less (Punct punct.ShiftLeft) = true
ends_with_less x = false

behind_less : (y : Lexeme) → meets (Punct punct.LessThan) y ≡ true → not (begins_with_slash y) ≡ true
behind_less (Punct punct.Slash) h = absurd (cc)
behind_less (Punct punct.SlashAssign) h = absurd (cc)
behind_less (Punct p) h = refl
behind_less y h = refl

behind_shift : (y : Lexeme) → meets (Punct punct.ShiftLeft) y ≡ true → not (begins_with_slash y) ≡ true
behind_shift (Punct punct.Slash) h = absurd (cc)
behind_shift (Punct punct.SlashAssign) h = absurd (cc)
behind_shift (Punct p) h = refl
behind_shift y h = refl

pub no_slash_behind_less : (x y : Lexeme) → meets x y ≡ true → not (ends_with_less x && begins_with_slash y) ≡ true
no_slash_behind_less (Punct punct.LessThan) y h = behind_less y h
no_slash_behind_less (Punct punct.ShiftLeft) y h = behind_shift y h
no_slash_behind_less (Punct p) y h = refl
no_slash_behind_less x y h = refl
