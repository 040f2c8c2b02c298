-- The tokens of a printed text are its lexemes.
use Rattle.std.proofs.Common.{◌≡◌, ℕ, pos, ◌-◌, Bool, true, false, List, [], ◌∷◌, ◌++◌, length, Option, Some, None, refl, sym, subst, arith}
use Rattle.std.specs.Prelude.{not, ◌&&◌, ◌||◌, ◌==◌}
use Rattle.std.specs.List.{list_all}
use Rattle.std.proofs.lemmas.Bool.Decides.{nat_tests}
use Rattle.std.proofs.lemmas.List.Sums.{list_all-from_AllPass}
use Rattle.std.proofs.lemmas.Bool.{and_parts, not-true}
use Rattle.js_core.specs.Characters.{is_white_space, is_line_end}
use Rattle.js_core.specs.Spelling.{keyword_text, punct_text}
use Rattle.js_core.specs.Text.{utf16_of}
use Rattle.js_core.specs.declared.token.Punct.{Punct as Sign}
use Rattle.js_core.specs.declared.token.Punct.TheVariants as punct
use Rattle.js_core.specs.declared.token.Token.{Token}
use Rattle.unicode_ident.proofs.Computing.{unicode_ident}
use Rattle.js_lexer.specs.Characters.{is_identifier_start, is_identifier_part, is_decimal_digit, begins_with}
use Rattle.js_lexer.specs.Numbers.{is_refused_behind_number}
use Rattle.js_lexer.specs.Separators.{separator_of, Gap}
use Rattle.js_lexer.specs.Separators.Gap.{none as no_gap_more, more as gap_more}
use Rattle.js_lexer.specs.Tokens.{TokenAt, TokensOf, Tokens}
use Rattle.js_lexer.specs.Tokens.TokensOf.{none as no_tokens, more as token_more}
use Rattle.js_lexer.specs.Tokens.TokenAt.{punctuator}
use Rattle.js_print.specs.declared.lexeme.Lexeme.{Lexeme}
use Rattle.js_print.specs.declared.lexeme.Lexeme.TheVariants.{Keyword, Name, Number, Text, Punct}
use Rattle.js_print.specs.ReadBack.{kind_of, AreTokensOf}
use Rattle.js_print.specs.ReadBack.AreTokensOf.{none as none_of_them, more as more_of_them}
use Rattle.js_print.specs.Spelling.{is_word, space_between, text_after}
use Rattle.js_print.specs.Written.{can_be_written, is_identifier_name, CanBeWritten, IsReadBack}
use Rattle.js_print.proofs.Neighbours.{refused_behind, has, meets, calm, start}
use Rattle.js_print.proofs.Quotes.{string_stands}
use Rattle.js_print.proofs.Signs.{sign_stands, no_gap_before_sign}
use Rattle.js_print.proofs.Units.{lexeme_units, units_after, are_written, text_is_utf8, units_of_text}
use Rattle.js_print.proofs.Words.{keyword_is_name, word_stands, no_gap_before_start, number_stands, decimal_begins, no_gap_before_digit}

-- a unit that may not stand behind the lexeme
abbrev pub refuses : Lexeme → ℕ → Bool
refuses (Keyword k) u = is_identifier_part u
refuses (Name x) u = is_identifier_part u
refuses (Number n) u = is_refused_behind_number u
refuses (Text t) u = false
refuses (Punct p) u = has (refused_behind (Punct p)) u

-- ---- one lexeme

-- no white space, line end or comment stands where the lexeme does, and its token does
pub record Read (x : Lexeme) (rest : List ℕ) : Type 0 where
  pub no_gap : separator_of (lexeme_units x ++ rest) ≡ None
  pub at : TokenAt (lexeme_units x ++ rest) rest (kind_of x)

quote_is_no_gap : (us : List ℕ) → separator_of (34 ∷ us) ≡ None
unfolding separator_of is_white_space is_line_end
quote_is_no_gap us = refl

number_is_read : (n : Option _) (rest : List ℕ) → can_be_written (kind_of (Number n)) ≡ true → begins_with is_refused_behind_number rest ≡ false → Read (Number n) rest
number_is_read (Some (pos n)) rest w ends = record { no_gap = no_gap_before_digit _ rest (decimal_begins n w); at = number_stands n rest w ends }
number_is_read n rest w ends = absurd (cc)

pub lexeme_is_read : (x : Lexeme) (rest : List ℕ) → can_be_written (kind_of x) ≡ true → begins_with (refuses x) rest ≡ false → Read x rest
lexeme_is_read (Keyword k) rest w ends =
    record { no_gap = no_gap_before_start (keyword_text k) rest (and_parts _ _ (keyword_is_name k)).0; at = word_stands (keyword_text k) rest (keyword_is_name k) ends }
lexeme_is_read (Name x) rest w ends =
    let is_name = (and_parts (is_identifier_name x) _ w).0 in
    record { no_gap = no_gap_before_start x rest (and_parts _ _ is_name).0; at = word_stands x rest is_name ends }
lexeme_is_read (Number n) rest w ends = number_is_read n rest w ends
lexeme_is_read (Text t) rest w ends = record { no_gap = quote_is_no_gap _; at = string_stands t rest w }
lexeme_is_read (Punct p) rest w ends = record { no_gap = no_gap_before_sign p rest ends; at = punctuator (punct_text p ++ rest) rest p (sign_stands p rest ends) }

-- ---- one lexeme behind another

space_ends_word : is_identifier_part 32 ≡ false
unfolding is_identifier_part unicode_ident
space_ends_word = refl

quote_ends_word : is_identifier_part 34 ≡ false
unfolding is_identifier_part unicode_ident
quote_ends_word = refl

sign_ends_word : (p : Sign) (us : List ℕ) → begins_with is_identifier_part (punct_text p ++ us) ≡ false
unfolding is_identifier_part unicode_ident
sign_ends_word punct.LeftBrace us = refl
sign_ends_word p us = refl

space_ends_number : is_refused_behind_number 32 ≡ false
unfolding is_identifier_start unicode_ident
space_ends_number = refl

quote_ends_number : is_refused_behind_number 34 ≡ false
unfolding is_identifier_start unicode_ident
quote_ends_number = refl

sign_ends_number : (n : Option _) (p : Sign) (us : List ℕ) → meets (Number n) (Punct p) ≡ true → begins_with is_refused_behind_number (punct_text p ++ us) ≡ false
unfolding is_identifier_start unicode_ident
sign_ends_number n punct.Dot us h = absurd (cc)
sign_ends_number n p us h = refl

nothing_is_refused : (us : List ℕ) → begins_with (λ u. false) us ≡ false
nothing_is_refused [] = refl
nothing_is_refused (u ∷ us) = refl

-- what no lexeme but a punctuator begins with
abbrev is_mark : ℕ → Bool
is_mark u = not (is_identifier_start u) && not (is_decimal_digit u) && not (u == 34)

marks_alone : (p : Sign) → list_all is_mark (refused_behind (Punct p)) ≡ true
unfolding is_identifier_start unicode_ident
marks_alone punct.LessThan = refl
marks_alone p = refl

had_passes : (q : ℕ → Bool) (us : List ℕ) (u : ℕ) → list_all q us ≡ true → has us u ≡ true → q u ≡ true
had_passes q [] u e h = absurd (cc)
had_passes q (v ∷ vs) u e h = by_case (u == v) refl h (had_passes q vs u (and_parts (q v) _ e).1)
  where
    by_case : (b : Bool) → (u == v) ≡ b → (b || has vs u) ≡ true → (has vs u ≡ true → q u ≡ true) → q u ≡ true
    by_case true s h more = let same : v ≡ u = grind (arith, nat_tests) in subst (λ w. q w ≡ true) same (and_parts (q v) _ e).0
    by_case false s h more = more h

refused_is_mark : (p : Sign) (u : ℕ) → is_mark u ≡ false → has (refused_behind (Punct p)) u ≡ false
refused_is_mark p u e = by_case (has (refused_behind (Punct p)) u) refl
  where
    by_case : (b : Bool) → has (refused_behind (Punct p)) u ≡ b → b ≡ false
    by_case true h = let mark = had_passes is_mark (refused_behind (Punct p)) u (marks_alone p) h in absurd (cc)
    by_case false h = refl

start_is_no_mark : (u : ℕ) → is_identifier_start u ≡ true → is_mark u ≡ false
start_is_no_mark u e = rw e refl

digit_is_no_mark : (u : ℕ) → is_decimal_digit u ≡ true → is_mark u ≡ false
digit_is_no_mark u e = by_case (is_identifier_start u)
  where
    by_case : (b : Bool) → (not b && not (is_decimal_digit u) && not (u == 34)) ≡ false
    by_case true = refl
    by_case false = rw e refl

start_ends_sign : (p : Sign) (us more : List ℕ) → begins_with is_identifier_start us ≡ true → begins_with (has (refused_behind (Punct p))) (us ++ more) ≡ false
start_ends_sign p [] more e = absurd (cc)
start_ends_sign p (u ∷ us) more e = refused_is_mark p u (start_is_no_mark u e)

digit_ends_sign : (p : Sign) (us more : List ℕ) → begins_with is_decimal_digit us ≡ true → begins_with (has (refused_behind (Punct p))) (us ++ more) ≡ false
digit_ends_sign p [] more e = absurd (cc)
digit_ends_sign p (u ∷ us) more e = refused_is_mark p u (digit_is_no_mark u e)

number_ends_sign : (p : Sign) (n : Option _) (more : List ℕ) → can_be_written (kind_of (Number n)) ≡ true → begins_with (has (refused_behind (Punct p))) (lexeme_units (Number n) ++ more) ≡ false
number_ends_sign p (Some (pos n)) more w = digit_ends_sign p _ more (decimal_begins n w)
number_ends_sign p n more w = absurd (cc)

quote_ends_sign : (p : Sign) → has (refused_behind (Punct p)) 34 ≡ false
quote_ends_sign punct.LessThan = refl
quote_ends_sign p = refl

sign_ends_sign : (p q : Sign) (us : List ℕ) → meets (Punct p) (Punct q) ≡ true → begins_with (has (refused_behind (Punct p))) (punct_text q ++ us) ≡ false
sign_ends_sign p q us h = begun (punct_text q) (has_first q) h
  where
    has_first : (q : Sign) → begins_with (λ u. true) (punct_text q) ≡ true
    has_first punct.LeftBrace = refl
    has_first q = refl

    begun : (cs : List ℕ) → begins_with (λ u. true) cs ≡ true → not (begins_with (has (refused_behind (Punct p))) cs) ≡ true → begins_with (has (refused_behind (Punct p))) (cs ++ us) ≡ false
    begun [] f h = absurd (cc)
    begun (c ∷ cs) f h = not-true (has (refused_behind (Punct p)) c) h

behind_word : (y : Lexeme) (more : List ℕ) → begins_with is_identifier_part (space_between true (is_word y) ++ (lexeme_units y ++ more)) ≡ false
behind_word (Keyword k) more = space_ends_word
behind_word (Name x) more = space_ends_word
behind_word (Number n) more = space_ends_word
behind_word (Text t) more = quote_ends_word
behind_word (Punct p) more = sign_ends_word p more

behind_number : (n : Option _) (y : Lexeme) (more : List ℕ) → meets (Number n) y ≡ true → begins_with is_refused_behind_number (space_between true (is_word y) ++ (lexeme_units y ++ more)) ≡ false
behind_number n (Keyword k) more h = space_ends_number
behind_number n (Name x) more h = space_ends_number
behind_number n (Number m) more h = space_ends_number
behind_number n (Text t) more h = quote_ends_number
behind_number n (Punct p) more h = sign_ends_number n p more h

behind_sign : (p : Sign) (y : Lexeme) (more : List ℕ) → can_be_written (kind_of y) ≡ true → meets (Punct p) y ≡ true → begins_with (has (refused_behind (Punct p))) (space_between false (is_word y) ++ (lexeme_units y ++ more)) ≡ false
behind_sign p (Keyword k) more w h = start_ends_sign p (keyword_text k) more (and_parts _ _ (keyword_is_name k)).0
behind_sign p (Name x) more w h = start_ends_sign p x more (and_parts _ _ (and_parts (is_identifier_name x) _ w).0).0
behind_sign p (Number n) more w h = number_ends_sign p n more w
behind_sign p (Text t) more w h = quote_ends_sign p
behind_sign p (Punct q) more w h = sign_ends_sign p q more h

pub next : (x y : Lexeme) (more : List ℕ) → can_be_written (kind_of y) ≡ true → meets x y ≡ true → begins_with (refuses x) (space_between (is_word x) (is_word y) ++ (lexeme_units y ++ more)) ≡ false
next (Keyword k) y more w h = behind_word y more
next (Name x) y more w h = behind_word y more
next (Number n) y more w h = behind_number n y more h
next (Text t) y more w h = nothing_is_refused (space_between false (is_word y) ++ (lexeme_units y ++ more))
next (Punct p) y more w h = behind_sign p y more w h

ends : (x : Lexeme) (xs : List Lexeme) → are_written xs ≡ true → calm x xs ≡ true → begins_with (refuses x) (units_after (is_word x) xs) ≡ false
ends x [] w c = refl
ends x (y ∷ ys) w c = next x y (units_after (is_word y) ys) (and_parts _ _ w).0 (and_parts _ _ c).0

-- ---- all lexemes

pub space_is_gap : (a b : Bool) (behind : List ℕ) → separator_of behind ≡ None → Gap (space_between a b ++ behind) behind false
unfolding separator_of is_white_space
space_is_gap true true behind e = gap_more (32 ∷ behind) behind behind false false refl (no_gap_more behind e)
space_is_gap true false behind e = no_gap_more behind e
space_is_gap false b behind e = no_gap_more behind e

pub no_gap_at_end : separator_of [] ≡ None
unfolding separator_of
no_gap_at_end = refl

-- the lexemes as tokens of the last part of a text of so many units
abbrev pub tokens_from : ℕ → List Lexeme → List Token
tokens_from size [] = []
tokens_from size (x ∷ xs) =
    record { what = kind_of x; start = size - length (lexeme_units x ++ units_after (is_word x) xs); end = size - length (units_after (is_word x) xs); after_line = false }
    ∷ tokens_from size xs

pub are_tokens : (size : ℕ) (xs : List Lexeme) → AreTokensOf xs (tokens_from size xs)
are_tokens size [] = none_of_them
are_tokens size (x ∷ xs) = more_of_them refl refl (are_tokens size xs)

has_tokens : (size : ℕ) (xs : List Lexeme) (before : Lexeme) (after_word : Bool) → are_written xs ≡ true → calm before xs ≡ true → TokensOf size (units_after after_word xs) (tokens_from size xs)
has_tokens size [] before after_word w c = no_tokens [] false (no_gap_more [] no_gap_at_end)
has_tokens size (x ∷ xs) before after_word w c =
    let rest = units_after (is_word x) xs in
    let read = lexeme_is_read x rest (and_parts _ _ w).0 (ends x xs (and_parts _ _ w).1 (and_parts (meets before x) _ c).1) in
    token_more (units_after after_word (x ∷ xs)) (lexeme_units x ++ rest) rest false (kind_of x) (tokens_from size xs) (space_is_gap after_word (is_word x) (lexeme_units x ++ rest) read.no_gap) read.at
    (has_tokens size xs x (is_word x) (and_parts _ _ w).1 (and_parts (meets before x) _ c).1)

pub calm_tokens : (xs : List Lexeme) → CanBeWritten xs → calm start xs ≡ true → Tokens (utf16_of (text_after false xs)) (tokens_from (length (units_after false xs)) xs)
calm_tokens xs written c =
    let w : are_written xs ≡ true = list_all-from_AllPass (λ x. can_be_written (kind_of x)) xs written in
    let size = length (units_after false xs) in
    subst (λ us. Tokens us (tokens_from size xs)) (sym (units_of_text xs w)) (has_tokens size xs start false w c)

pub calm_is_read_back : (xs : List Lexeme) → CanBeWritten xs → calm start xs ≡ true → IsReadBack xs
calm_is_read_back xs written c =
    let w : are_written xs ≡ true = list_all-from_AllPass (λ x. can_be_written (kind_of x)) xs written in
    let size = length (units_after false xs) in
    (text_is_utf8 xs w, (tokens_from size xs, calm_tokens xs written c, are_tokens size xs))
