-- Scripts: expressions, statements and bodies of functions tied together, by how deep they nest.
use Rattle.std.specs.Prelude.{◌≡◌, ℕ, zero, suc, ◌≤◌, Bool, IsTrue, List, []}
use Rattle.std.specs.List.{All}
use Rattle.js_core.specs.Tree as tree
use Rattle.js_core.specs.Tree.{stmts_of}
use Rattle.js_core.specs.Height.{stmts_height}
use Rattle.js_core.specs.declared.token.Token.{Token}
use Rattle.js_lexer.specs.Written.{can_be_written}
use Rattle.js_grammar.specs.Symbols.{lexemes}
use Rattle.js_grammar.specs.Operators.{Level}
use Rattle.js_grammar.specs.Phrases.{Phrase}
use Rattle.js_grammar.specs.Expressions.{AtLevel}
use Rattle.js_grammar.specs.Statements.{Statement, Elements}
use Rattle.js_grammar.specs.Syntax.{IsSyntax}

-- what stands inside something else
pub data Part : Type 0 where
  -- an expression: whether `in` is an operator, its level, and whether `(`, `[` or a point goes on with it
  expression : Bool → Level → Bool → Part
  statement : Part
  -- what stands between the braces of a function
  body : Part

abbrev pub TreeOf : Part → Type 0
TreeOf (expression inn level grows) = tree.Expr
TreeOf statement = tree.Stmt
TreeOf body = List tree.Stmt

-- a part, nested less deep than the number
abbrev pub Nested : ℕ → (part : Part) → Phrase (TreeOf part)
Nested zero part x z a = ⊥
Nested (suc depth) (expression inn level grows) x z a = AtLevel (λ inn level grows. Nested depth (expression inn level grows)) (Nested depth body) inn level grows x z a
Nested (suc depth) statement x z a = Statement (λ inn level grows. Nested depth (expression inn level grows)) (Nested depth body) (Nested depth statement) x z a
Nested (suc depth) body x z a = Elements (λ inn level grows. Nested depth (expression inn level grows)) (Nested depth body) (Nested depth statement) x z a

-- All the tokens are this script. Its body is what could be a function's, too.
abbrev pub Derives : List Token → tree.Stmts → Type 0
Derives tokens script = (depth : ℕ) × (found : List tree.Stmt) × Nested depth body (lexemes tokens) [] found × (stmts_of found ≡ script)

-- the greatest height of a script
abbrev pub height_limit : ℕ
height_limit = 440

-- the script of these tokens, which is no higher than the limit
abbrev pub ScriptOf : ℕ → List Token → tree.Stmts → Type 0
ScriptOf limit tokens script = Derives tokens script × (stmts_height script ≤ limit)

-- the tree that tokens derive, each of which can be written, keeps the rules on trees
abbrev pub TokensHaveSyntax : Type 0
TokensHaveSyntax = (tokens : List Token) (script : tree.Stmts) → All (λ t. IsTrue (can_be_written t.what)) tokens → Derives tokens script → IsSyntax script
