-- A printed script is read again.
use Rattle.std.specs.Prelude.{◌≡◌, ℕ, Bool, false, ◌||◌, ◌++◌, IsTrue, List, codes, bytes_eq, IsUtf8}
use Rattle.js_core.specs.Text.{utf16_of}
use Rattle.js_core.specs.Tree as tree
use Rattle.js_core.specs.Tree.{no_stmts, then_stmt}
use Rattle.js_core.specs.declared.token.Token.{Token}
use Rattle.js_grammar.specs.Scripts.{Derives}
use Rattle.js_grammar.specs.Syntax.{IsSyntax}
use Rattle.js_lexer.specs.Directives.{IsStrict}
use Rattle.js_lexer.specs.Tokens.{Tokens}
use Rattle.js_print.specs.Laws.{HasNoEndTag, HasNoControl}
use Rattle.js_print.specs.Printing.{script_text}

-- the script begins with string literals as statements, one of which is the strict directive (section 14.1)
abbrev pub begins_strict : tree.Stmts → Bool
begins_strict (then_stmt (tree.expr (tree.text t)) ss) = bytes_eq t (codes "use strict") || begins_strict ss
begins_strict ss = false

-- The printed text is UTF-8. Neither its bytes nor its units have an end tag, and it has no control character. The tokens of
-- its units derive the script again, and are strict where the script begins so.
pub record ReadAgain (script : tree.Stmts) (printed : List ℕ) : Type 0 where
  pub utf8 : IsUtf8 printed
  pub no_end_tag : HasNoEndTag printed
  pub no_tag_in_units : HasNoEndTag (utf16_of printed)
  pub no_control : HasNoControl printed
  pub tokens : List Token
  pub read : Tokens (utf16_of printed) tokens
  pub derived : Derives tokens script
  pub strict : IsTrue (begins_strict script) → IsStrict tokens

-- so it is where the script keeps the rules on trees, as each does that tokens have
abbrev pub IsReadAgain : tree.Stmts → List ℕ → Type 0
IsReadAgain script printed = IsSyntax script → ReadAgain script printed

-- each script
abbrev pub ScriptsAreReadAgain : Type 0
ScriptsAreReadAgain = (script : tree.Stmts) → IsReadAgain script (script_text script)

-- the script of the declaration of a function alone
abbrev pub declaration : tree.Code → tree.Stmts
declaration c = then_stmt (tree.function c) no_stmts

-- the script of a function expression alone, which stands in parentheses
abbrev pub function_expression : tree.Code → tree.Stmts
function_expression c = then_stmt (tree.expr (tree.func c)) no_stmts

-- a printed function is read again as the declaration, and in parentheses as the expression

abbrev pub IsDeclared : tree.Code → List ℕ → Type 0
IsDeclared c printed = IsReadAgain (declaration c) printed

abbrev pub IsExpressed : tree.Code → List ℕ → Type 0
IsExpressed c printed = IsReadAgain (function_expression c) (codes "(" ++ (printed ++ codes ");"))

-- it holds of what is appended
abbrev pub Appended : (List ℕ → Type 0) → List ℕ → List ℕ → Type 0
Appended P old new = (printed : List ℕ) → new ≡ old ++ printed → P printed
