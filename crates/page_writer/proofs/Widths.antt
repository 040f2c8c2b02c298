-- How wide lexemes are: how many bytes they take after a word, at most one more than alone.
use Rattle.std.proofs.Common.{◌≡◌, refl, ap, ◌∙◌, ℕ, pos, ◌+◌, ◌*◌, ◌<◌, ◌≤◌, Bool, true, false, ◌&&◌, ◌==◌, List, [], ◌∷◌, ◌++◌, length, Some, decimal, flat_map, arith}
use Rattle.std.specs.Prelude.{if◌then◌else◌}
use Rattle.std.specs.Char.Utf16.{is_high_surrogate, is_low_surrogate, surrogate_pair_char}
use Rattle.std.specs.Char.Escape.{backslash}
use Rattle.std.proofs.lemmas.Fmt.{length-decimal-le}
use Rattle.std.proofs.lemmas.List.{length-append}
use Rattle.std.proofs.lemmas.List.Concat.{flat_map-cons}
use Rattle.std.proofs.lemmas.Str.{length-encode, len_utf8_bounds}
use Rattle.js_core.specs.LineText.{code_points, is_escaped, line_code, line_text}
use Rattle.js_core.specs.Tree as tree
use Rattle.js_core.specs.Spelling.{punct_text}
use Rattle.js_core.specs.declared.token.Punct.{Punct as Mark}
use Rattle.js_core.specs.declared.token.Punct.TheVariants as punct
use Rattle.js_print.specs.Lexemes.{code_lexemes}
use Rattle.js_print.specs.Places.{braced, parenthesised}
use Rattle.js_print.specs.Printing.{code_text}
use Rattle.js_print.specs.Spelling.{is_plain, is_word, lexeme_text, space_between, string_text, string_unit, text_after, text_of}
use Rattle.js_print.specs.declared.lexeme.Lexeme.{Lexeme}
use Rattle.js_print.specs.declared.lexeme.Lexeme.TheVariants.{Name, Number, Punct, Text}

unfoldable pub wide : List Lexeme → ℕ
wide xs = length (text_after true xs)

-- ---- lists of lexemes

after_less : (a : Bool) (xs : List Lexeme) → length (text_after a xs) ≤ length (text_after true xs)
after_less true xs = omega arith
after_less false [] = omega arith
after_less false (x ∷ xs) =
    let rest : List ℕ = lexeme_text x ++ text_after (is_word x) xs in
    omega (
      arith,
      length-append (space_between false (is_word x)) rest,
      length-append (space_between true (is_word x)) rest,
      none (is_word x),
    )
  where
    none : (b : Bool) → length (space_between false b) ≡ 0
    none true = refl
    none false = refl

after_append : (a : Bool) (xs ys : List Lexeme)
    → length (text_after a (xs ++ ys)) ≤ length (text_after a xs) + length (text_after true ys)
after_append a [] ys = omega (arith, after_less a ys)
after_append a (x ∷ xs) ys =
    let space : List ℕ = space_between a (is_word x) in
    let one : List ℕ = lexeme_text x in
    let whole : List ℕ = text_after (is_word x) (xs ++ ys) in
    let part : List ℕ = text_after (is_word x) xs in
    omega (
      arith,
      after_append (is_word x) xs ys,
      length-append space (one ++ whole),
      length-append one whole,
      length-append space (one ++ part),
      length-append one part,
    )

pub wide_append : (xs ys : List Lexeme) → wide (xs ++ ys) ≤ wide xs + wide ys
unfolding wide
wide_append xs ys = after_append true xs ys

-- between two others
pub wide_between : (xs ys zs : List Lexeme)
    → wide (xs ++ (ys ++ zs)) ≤ wide xs + (wide ys + wide zs)
wide_between xs ys zs = omega (arith, wide_append xs (ys ++ zs), wide_append ys zs)

pub text_within : (xs : List Lexeme) → length (text_of xs) ≤ wide xs
unfolding wide
text_within xs = after_less false xs

behind_word : (xs : List Lexeme) → length (text_after true xs) ≤ length (text_of xs) + 1
behind_word [] = omega arith
behind_word (x ∷ xs) =
    let rest : List ℕ = lexeme_text x ++ text_after (is_word x) xs in
    omega (
      arith,
      length-append (space_between false (is_word x)) rest,
      length-append (space_between true (is_word x)) rest,
      one (is_word x),
    )
  where
    one : (b : Bool) → length (space_between true b) ≤ 1
    one true = omega arith
    one false = omega arith

pub code_wide : (c : tree.Code) → wide (code_lexemes c) ≤ length (code_text c) + 1
unfolding wide
code_wide c = behind_word (code_lexemes c)

-- ---- texts

flat_short : (f : ℕ → List ℕ) → ((u : ℕ) → length (f u) ≤ 6) → (us : List ℕ)
    → length (flat_map f us) ≤ 6 * length us
flat_short f each [] = omega arith
flat_short f each (u ∷ us) =
    omega (
      arith,
      each u,
      flat_short f each us,
      length-append (f u) (flat_map f us),
      ap length (flat_map-cons f u us),
    )

either_short : (b : Bool) (xs ys : List ℕ) → length xs ≤ 6 → length ys ≤ 6
    → length (if b then xs else ys) ≤ 6
either_short true xs ys h g = h
either_short false xs ys h g = g

unit_short : (u : ℕ) → length (string_unit u) ≤ 6
unit_short u =
    either_short (is_plain u) _ _ (omega arith)
    (either_short (u == 0x22) _ _ (omega arith)
    (either_short (u == 0x5C) _ _ (omega arith) (omega arith)))

string_short : (us : List ℕ) → length (string_text us) ≤ 6 * length us + 2
string_short us =
    let inner : List ℕ = flat_map string_unit us in
    omega (arith, flat_short string_unit (λ u. unit_short u) us, length-append inner (34 ∷ []))

point_short : (c : ℕ) → length (line_code c) ≤ 6
point_short c =
    either_short (c == backslash) _ _ (omega arith)
    (either_short (is_escaped c) _ _ (omega arith)
    (omega (arith, length-encode c, (len_utf8_bounds c).1)))

points_fewer : (us : List ℕ) → length (code_points us) ≤ length us
points_fewer [] = omega arith
points_fewer (u ∷ []) = omega arith
points_fewer (u ∷ v ∷ us) =
    by (is_high_surrogate u && is_low_surrogate v) (points_fewer us) (points_fewer (v ∷ us))
  where
    by : (b : Bool) → length (code_points us) ≤ length us
        → length (code_points (v ∷ us)) ≤ length (v ∷ us)
        → length (if b then surrogate_pair_char u v ∷ code_points us else (u ∷ code_points (v ∷ us)))
        ≤ length (u ∷ v ∷ us)
    by true h g = omega (arith, h)
    by false h g = omega (arith, g)

name_short : (us : List ℕ) → length (line_text us) ≤ 6 * length us
name_short us =
    omega (
      arith,
      points_fewer us,
      flat_short line_code (λ c. point_short c) (code_points us),
    )

-- ---- single lexemes

pub text_wide : (us : List ℕ) → wide (Text us ∷ []) ≤ 6 * length us + 2
unfolding wide
text_wide us = omega (arith, string_short us, length-append (string_text us) [])

pub name_wide : (us : List ℕ) → wide (Name us ∷ []) ≤ 6 * length us + 1
unfolding wide
name_wide us = omega (arith, name_short us, length-append (line_text us) [])

pub count_wide : (n : ℕ) → n < 100000 → wide (Number (Some (pos n)) ∷ []) ≤ 6
unfolding wide
count_wide n small =
    omega (
      arith,
      length-decimal-le 5 n (omega arith) (omega arith) (omega arith),
      length-append (decimal n) [],
    )

pub number_wide : (n : ℕ) → n ≤ 9007199254740991 → wide (Number (Some (pos n)) ∷ []) ≤ 17
unfolding wide
number_wide n small =
    omega (
      arith,
      length-decimal-le 16 n (omega arith) (omega arith) (omega arith),
      length-append (decimal n) [],
    )

-- a punctuator of one character
pub mark_wide : (p : Mark) → length (punct_text p) ≡ 1 → wide (Punct p ∷ []) ≡ 1
unfolding wide
mark_wide p one = length-append (punct_text p) [] ∙ omega (arith, one)

pub nothing_wide : wide [] ≡ 0
unfolding wide
nothing_wide = refl

pub parenthesised_wide : (xs : List Lexeme) → wide (parenthesised xs) ≤ wide xs + 2
parenthesised_wide xs =
    omega (
      arith,
      wide_between (Punct punct.LeftParenthesis ∷ []) xs (Punct punct.RightParenthesis ∷ []),
      mark_wide punct.LeftParenthesis refl,
      mark_wide punct.RightParenthesis refl,
    )

pub braced_wide : (xs : List Lexeme) → wide (braced xs) ≤ wide xs + 2
braced_wide xs =
    omega (
      arith,
      wide_between (Punct punct.LeftBrace ∷ []) xs (Punct punct.RightBrace ∷ []),
      mark_wide punct.LeftBrace refl,
      mark_wide punct.RightBrace refl,
    )
