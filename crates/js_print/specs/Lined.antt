-- Printed lexemes with line ends between them, as a page has them that is written statement by statement.
use Rattle.std.specs.Prelude.{ℕ, Bool, true, false, not, ◌&&◌, ◌||◌, ◌==◌, IsTrue, List, [], ◌∷◌, ◌++◌, IsUtf8}
use Rattle.std.specs.List.{list_all}
use Rattle.js_core.specs.Text.{utf16_of}
use Rattle.js_core.specs.Tree as tree
use Rattle.js_core.specs.declared.token.Punct.TheVariants as punct
use Rattle.js_core.specs.declared.token.Token.{Token}
use Rattle.js_grammar.specs.LineEnds.{first_of, others_of, is_border}
use Rattle.js_grammar.specs.Scripts.{Derives}
use Rattle.js_grammar.specs.Symbols.{symbol_of}
use Rattle.js_grammar.specs.Syntax.{IsSyntax}
use Rattle.js_lexer.specs.Directives.{IsStrict}
use Rattle.js_lexer.specs.Tokens.{Tokens}
use Rattle.js_print.specs.declared.lexeme.Lexeme.{Lexeme}
use Rattle.js_print.specs.declared.lexeme.Lexeme.TheVariants.{Punct}
use Rattle.js_print.specs.Laws.{HasNoEndTag, is_free}
use Rattle.js_print.specs.Lexemes.{stmts_lexemes}
use Rattle.js_print.specs.ReadAgain.{begins_strict}
use Rattle.js_print.specs.ReadBack.{kind_of}
use Rattle.js_print.specs.Spelling.{is_word, lexeme_text, space_between}

-- LF, or else the space between two lexemes of which these tell whether they are words
abbrev pub gap : Bool → Bool → Bool → List ℕ
gap true a b = 10 ∷ []
gap false a b = space_between a b

-- the text of lexemes, where the list tells before which of them a line end stands
abbrev pub lined_after : Bool → List Bool → List Lexeme → List ℕ
lined_after after_word ls [] = []
lined_after after_word ls (x ∷ xs) = gap (first_of ls) after_word (is_word x) ++ (lexeme_text x ++ lined_after (is_word x) (others_of ls) xs)

abbrev pub lined_text : List Bool → List Lexeme → List ℕ
lined_text ls xs = lined_after false ls xs

-- Each of the line ends may stand where it does: behind `{`, `;`, `:` and `}`, and before `}`. So one may before each statement. No postfix
-- `++` or `--` is printed behind a `}` (section 11.3), as an object literal or a function stands in parentheses there.
abbrev pub may_be_lined : Lexeme → List Bool → List Lexeme → Bool
may_be_lined behind ls [] = true
may_be_lined behind ls (x ∷ xs) = (not (first_of ls) || is_border (symbol_of (kind_of behind)) (symbol_of (kind_of x))) && may_be_lined x (others_of ls) xs

-- what stands before a script, as before a statement
abbrev pub opening : Lexeme
opening = Punct punct.Semicolon

-- a unit that is LF or no control character
abbrev pub is_lined : ℕ → Bool
is_lined u = is_free u || (u == 10)

-- The text is UTF-8 without an end tag, has no control character but LF, and its tokens derive the script and are strict where
-- the script begins so.
pub record LinedAgain (script : tree.Stmts) (text : List ℕ) : Type 0 where
  pub utf8 : IsUtf8 text
  pub no_tag_in_units : HasNoEndTag (utf16_of text)
  pub no_control : IsTrue (list_all is_lined (utf16_of text))
  pub tokens : List Token
  pub read : Tokens (utf16_of text) tokens
  pub derived : Derives tokens script
  pub strict : IsTrue (begins_strict script) → IsStrict tokens

-- so is that of each script that keeps the rules on trees, with line ends wherever they may stand
abbrev pub LinedScriptsAreReadAgain : Type 0
LinedScriptsAreReadAgain = (script : tree.Stmts) (ls : List Bool) → IsSyntax script → IsTrue (may_be_lined opening ls (stmts_lexemes script)) → LinedAgain script (lined_text ls (stmts_lexemes script))
