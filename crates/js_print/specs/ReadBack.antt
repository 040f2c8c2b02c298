-- Printed lexemes as tokens, and the law of their tree.
use Rattle.std.specs.Prelude.{◌≡◌, false, List, [], ◌∷◌}
use Rattle.js_core.specs.Spelling.{keyword_text}
use Rattle.js_core.specs.Tree as tree
use Rattle.js_core.specs.declared.token.Token.{Token}
use Rattle.js_core.specs.declared.token.TokenKind.{TokenKind}
use Rattle.js_core.specs.declared.token.TokenKind.TheVariants as kind
use Rattle.js_grammar.specs.Scripts.{Derives}
use Rattle.js_grammar.specs.Syntax.{IsSyntax}
use Rattle.js_print.specs.declared.lexeme.Lexeme.{Lexeme}
use Rattle.js_print.specs.declared.lexeme.Lexeme.TheVariants as lexeme
use Rattle.js_print.specs.Lexemes.{stmts_lexemes}

-- the token that is written as the lexeme is
abbrev pub kind_of : Lexeme → TokenKind
kind_of (lexeme.Keyword k) = kind.Word (keyword_text k)
kind_of (lexeme.Name x) = kind.Word x
kind_of (lexeme.Number n) = kind.Number n
kind_of (lexeme.Text x) = kind.Text x
kind_of (lexeme.Punct p) = kind.Punct p

-- the tokens are these lexemes, wherever they stand, and no line end stands before one
pub data AreTokensOf : List Lexeme → List Token → Type 0 where
  none : AreTokensOf [] []
  more : {x : Lexeme} {t : Token} {xs : List Lexeme} {ts : List Token} → t.what ≡ kind_of x → t.after_line ≡ false → AreTokensOf xs ts → AreTokensOf (x ∷ xs) (t ∷ ts)

-- the tokens that are the lexemes of a script derive it
abbrev pub LexemesDeriveTheTree : Type 0
LexemesDeriveTheTree = (again : List Token) (script : tree.Stmts) → IsSyntax script → AreTokensOf (stmts_lexemes script) again → Derives again script
