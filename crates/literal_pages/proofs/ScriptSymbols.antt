-- The symbols of a script that is a part of a page are literal.
use Rattle.std.proofs.Common.{◌≡◌, ℕ, ℤ, pos, negsuc, suc, ◌≤◌, nat_lt, Bool, true, false, ◌&&◌, List, [], ◌∷◌, length, Option, Some, None, refl, subst, arith}
use Rattle.std.specs.Prelude.{IsTrue, if◌then◌else◌}
use Rattle.std.specs.List.{All, list_all}
use Rattle.std.proofs.lemmas.Bool.{and_parts, ltb-true}
use Rattle.std.proofs.lemmas.Bool.Decides.{nat_tests}
use Rattle.std.proofs.lemmas.List.Elements.{All-head, All-tail}
use Rattle.js_core.specs.Spelling.{is_unused_word, keyword_of, keyword_text}
use Rattle.js_core.specs.Whole.{largest}
use Rattle.js_core.specs.declared.keyword.Keyword.{Keyword}
use Rattle.js_core.specs.declared.keyword.Keyword.TheVariants as keyword
use Rattle.js_core.specs.declared.token.Token.{Token}
use Rattle.js_core.specs.declared.token.TokenKind.{TokenKind}
use Rattle.js_core.specs.declared.token.TokenKind.TheVariants as kind
use Rattle.js_lexer.specs.Written.{can_be_written, is_identifier_name, is_literal_value, is_unit}
use Rattle.js_grammar.specs.declared.sign.Sign.TheVariants.{Mark, Word}
use Rattle.js_grammar.specs.Symbols.{Lexeme, Symbol, field_name, identifier, lexemes, member_name, number, number_text, sign, symbol_of, text, unused, word_symbol}
use Rattle.literal_values.specs.Values.{IsName, IsNumber, IsText, longest_name}
use Rattle.literal_values.proofs.Callers.{decimal_text, name_text}
use Rattle.literal_pages.proofs.InUnits.{all_units, are_units}
use Rattle.literal_pages.proofs.ScriptTokens.{AreShort, IsShortKind}

-- ---- symbols

abbrev pub LiteralSymbol : Symbol → Type 0
LiteralSymbol (sign s) = Unit {0}
LiteralSymbol (identifier w) = IsName w
LiteralSymbol (unused w) = IsName w
LiteralSymbol (number n) = IsNumber n × IsText (number_text n)
LiteralSymbol (text t) = IsText t

-- each is literal, and those from it on are so many that they can be counted
abbrev pub AreLiteral : List Lexeme → Type 0
AreLiteral [] = Unit {0}
AreLiteral (t ∷ ts) = (LiteralSymbol t.0 × (suc (length ts) ≤ largest)) × AreLiteral ts

-- ---- those of tokens

word_literal : (w : List ℕ) (o : Option Keyword) → IsName w → LiteralSymbol (word_symbol w o)
word_literal w (Some k) h = tt
word_literal w None h = by (is_unused_word w)
  where
    by : (b : Bool) → LiteralSymbol (if b then unused w else identifier w)
    by true = h
    by false = h

number_literal : (n : Option ℤ) → is_literal_value n ≡ true → IsNumber n × IsText (number_text n)
number_literal (Some (pos k)) h = (grind (arith, nat_tests), decimal_text k)
number_literal (Some (negsuc k)) h = absurd (cc)
number_literal None h = absurd (cc)

symbol_literal : (k : TokenKind) → can_be_written k ≡ true → IsShortKind longest_name k → LiteralSymbol (symbol_of k)
symbol_literal (kind.Word w) h short = word_literal w (keyword_of w) (all_units w (and_parts (is_identifier_name w) (list_all is_unit w) h).1, short)
symbol_literal (kind.Number n) h short = number_literal n h
symbol_literal (kind.Text t) h short = name_text t (all_units t h, short)
symbol_literal (kind.Punct p) h short = tt

symbols_count : (ts : List Token) → length (lexemes ts) ≤ length ts
symbols_count [] = omega arith
symbols_count (t ∷ ts) = let l = symbols_count ts in omega arith

abbrev Writes : Token → Type 0
Writes t = IsTrue (can_be_written t.what)

pub symbols_literal : (ts : List Token) → All Writes ts → AreShort longest_name ts → AreLiteral (lexemes ts)
symbols_literal [] h short = tt
symbols_literal (t ∷ ts) h short =
    let l = symbols_count ts in
    let m = short.0.1 in
    ((symbol_literal t.what (All-head Writes t ts h) short.0.0, omega arith), symbols_literal ts (All-tail Writes t ts h) short.1)

-- ---- names of properties

is_little : List ℕ → Bool
is_little t = are_units t && nat_lt (length t) 100

keyword_is_little : (k : Keyword) → is_little (keyword_text k) ≡ true
unfolding is_little
keyword_is_little keyword.Break = refl
keyword_is_little _ = refl

little_text : (t : List ℕ) → is_little t ≡ true → IsText t
unfolding is_little
little_text t h =
    let parts = and_parts (are_units t) (nat_lt (length t) 100) h in
    let l = ltb-true (length t) 100 parts.1 in
    (all_units t parts.0, omega arith)

pub member_literal : (s : Symbol) (w : List ℕ) → LiteralSymbol s → member_name s ≡ Some w → IsText w
member_literal (identifier v) w h e = let same : v ≡ w = cc in subst IsText same (name_text v h)
member_literal (unused v) w h e = let same : v ≡ w = cc in subst IsText same (name_text v h)
member_literal (sign (Word k)) w h e = let same : keyword_text k ≡ w = cc in subst IsText same (little_text (keyword_text k) (keyword_is_little k))
member_literal (sign (Mark m)) w h e = absurd (cc)
member_literal (number n) w h e = absurd (cc)
member_literal (text t) w h e = absurd (cc)

pub field_literal : (s : Symbol) (w : List ℕ) → LiteralSymbol s → field_name s ≡ Some w → IsText w
field_literal (number n) w h e = let same : number_text n ≡ w = cc in subst IsText same h.1
field_literal (text t) w h e = let same : t ≡ w = cc in subst IsText same h
field_literal (identifier v) w h e = member_literal (identifier v) w h e
field_literal (unused v) w h e = member_literal (unused v) w h e
field_literal (sign s) w h e = member_literal (sign s) w h e
