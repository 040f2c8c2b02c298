-- What stands inside a phrase, and what functions ensure that build a tree of what they read.
use Rattle.std.specs.Prelude.{◌≡◌, ◌≢◌, ℕ, nat_le, Bool, true, false, List, [], ◌∷◌, Some, Result, Ok, Err}
use Rattle.js_core.specs.Tree as tree
use Rattle.js_core.specs.Tree.{exprs_of}
use Rattle.js_core.specs.Height.{expr_height}
use Rattle.js_grammar.specs.declared.operators.Level.{Level}
use Rattle.js_grammar.specs.Parser.{Parser}
use Rattle.js_grammar.specs.ScriptReader as script
use Rattle.js_grammar.specs.Scripts.{height_limit}
use Rattle.js_core.specs.declared.memory.Failure.{Failure}
use Rattle.expression_parser.specs.declared.fault.NotScript.{NotScript}
use Rattle.js_core.specs.declared.memory.Failure.TheVariants.{OutOfMemory}
use Rattle.expression_parser.specs.declared.nesting.Nesting.{Nesting}
use Rattle.expression_parser.specs.Reads.{Gives}

-- the greatest height of a tree that is read
unfoldable pub limit : ℕ
limit = height_limit

-- an expression inside, where parts nest less deep than this
unfoldable pub expression_in : Nesting → Bool → Level → Parser tree.Expr
expression_in depth = λ inn level. script.inside limit depth.room depth.all (script.expression inn level)

-- what stands between the braces of a function
unfoldable pub body_in : Nesting → Parser (List tree.Stmt)
body_in depth = script.inside limit depth.room depth.all script.body

-- a statement inside another, where parts nest less deep than this
unfoldable pub statement_in : Nesting → Parser tree.Stmt
statement_in depth = script.inside limit depth.room depth.all script.statement

-- what a function ensures that builds a tree: the tree, unless it is too high or memory fails
abbrev pub Keeps : {A : Type 0} → ℕ → A → Result A (Failure NotScript) → Type 0
Keeps height t (Ok a) = (nat_le height limit ≡ true) × (a ≡ t)
Keeps height t (Err e) = e ≢ OutOfMemory → nat_le height limit ≡ false

abbrev pub Builds : tree.Expr → Result tree.Expr (Failure NotScript) → Type 0
Builds t result = Keeps (expr_height t) t result

-- what a function ensures that puts commas between expressions: one alone has none
abbrev pub Joins : List tree.Expr → Result tree.Expr (Failure NotScript) → Type 0
Joins (a ∷ []) result = Gives (Some a) result
Joins es result = Builds (tree.comma (exprs_of es)) result
