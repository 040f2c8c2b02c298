-- What goes on with an expression is what the grammar has behind one.
use Rattle.std.proofs.Common.{◌≡◌, ◌∙◌, List, ℕ, Bool, true, false, Option, Some, None, refl, sym}
use Rattle.std.specs.Prelude.{◌||◌, ◌&&◌, if◌then◌else◌}
use Rattle.std.proofs.Math.Bool.{and-true}
use Rattle.js_core.specs.Spelling.{keyword_of, is_unused_word}
use Rattle.js_core.specs.declared.keyword.Keyword.{Keyword}
use Rattle.js_core.specs.declared.keyword.Keyword.TheVariants as kw
use Rattle.js_core.specs.declared.token.Punct.TheVariants as p
use Rattle.js_core.specs.declared.token.TokenKind.{TokenKind}
use Rattle.js_core.specs.declared.token.TokenKind.TheVariants as kind
use Rattle.js_lexer.specs.Directives as directives
use Rattle.js_grammar.specs.declared.sign.Sign.{Sign}
use Rattle.js_grammar.specs.declared.sign.Sign.TheVariants.{Mark, Word}
use Rattle.js_grammar.specs.Endings.{after_expression, continues, goes_on, OperatorsAndSuffixesGoOn}
use Rattle.js_grammar.specs.Operators.{climbs, is_later, is_suffix}
use Rattle.js_grammar.specs.Symbols.{identifier, unused, is_sign, sign_of, symbol_of, word_symbol}

pub continues_by_operators : (grows : Bool) (s : Option Sign) → continues (after_expression grows) s
    ≡ ((grows && is_suffix true s) || (climbs true 1 s || (is_later s || is_sign (Mark p.Comma) s)))
continues_by_operators true None = refl
continues_by_operators false None = refl
continues_by_operators true (Some (Word kw.In)) = refl
continues_by_operators false (Some (Word kw.In)) = refl
continues_by_operators true (Some (Word _)) = refl
continues_by_operators false (Some (Word _)) = refl
continues_by_operators true (Some (Mark p.LeftBrace)) = refl
continues_by_operators false (Some (Mark p.LeftBrace)) = refl
continues_by_operators true (Some (Mark _)) = refl
continues_by_operators false (Some (Mark _)) = refl

pub operators_and_suffixes_go_on : OperatorsAndSuffixesGoOn
operators_and_suffixes_go_on s = sym (and-true (goes_on s)) ∙ continues_by_operators true s

-- ---- tokens

no_word : (w : List ℕ) (b : Bool) → false ≡ goes_on (sign_of (if b then unused w else identifier w))
no_word w true = refl
no_word w false = refl

word_goes_on : (w : List ℕ) (o : Option Keyword) → directives.word_continues o ≡ goes_on (sign_of (word_symbol w o))
word_goes_on w (Some k) = refl
word_goes_on w None = no_word w (is_unused_word w)

-- a token goes on with an expression where its sign does
pub token_goes_on : (k : TokenKind) → directives.continues k ≡ goes_on (sign_of (symbol_of k))
token_goes_on (kind.Word w) = word_goes_on w (keyword_of w)
token_goes_on (kind.Number n) = refl
token_goes_on (kind.Text t) = refl
token_goes_on (kind.Punct p) = refl
