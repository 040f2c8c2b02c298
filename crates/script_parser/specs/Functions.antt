-- Function values that read what stands inside a phrase.
use Rattle.std.specs.Prelude.{Bool, List, Result}
use Rattle.std.specs.declared.alloc.Global.{Global}
use Rattle.std.specs.declared.vec.Vec.{Vec}
use denote.Ref.{MutBor}
use Rattle.js_core.specs.Tree as tree
use Rattle.js_grammar.specs.declared.operators.Level.{Level}
use Rattle.js_grammar.specs.Symbols.{Lexeme}
use Rattle.js_core.specs.declared.memory.Failure.{Failure}
use Rattle.expression_parser.specs.declared.fault.NotScript.{NotScript}
use Rattle.expression_parser.specs.declared.nesting.Nesting.{Nesting}
use Rattle.expression_parser.specs.Inside.{expression_in, body_in, statement_in}
use Rattle.expression_parser.specs.Reads.{Reads, ReadsAll}

-- function values that read an expression, what stands between the braces of a function, and a statement, at a depth
pub record Nests (depth : Nesting)
    (expression_pre : Global → Nesting → Bool → Level → MutBor (List Lexeme) → Type 0)
    (expression_post : Global → Nesting → Bool → Level → MutBor (List Lexeme) → Result tree.Expr (Failure NotScript) → MutBor (List Lexeme) → Type 0)
    (body_pre : Global → Nesting → MutBor (List Lexeme) → Type 0)
    (body_post : Global → Nesting → MutBor (List Lexeme) → Result (Vec tree.Stmt Global) (Failure NotScript) → MutBor (List Lexeme) → Type 0)
    (statement_pre : Global → Nesting → MutBor (List Lexeme) → Type 0)
    (statement_post : Global → Nesting → MutBor (List Lexeme) → Result tree.Stmt (Failure NotScript) → MutBor (List Lexeme) → Type 0) : Type 0 where
  pub expression_callable : (alloc : Global) (inn : Bool) (level : Level) (old : MutBor (List Lexeme)) → expression_pre alloc depth inn level old
  pub expression_reads : (alloc : Global) (inn : Bool) (level : Level) (old new : MutBor (List Lexeme)) (r : Result tree.Expr (Failure NotScript))
      → expression_post alloc depth inn level old r new → Reads (expression_in depth inn level old.now) r new.now
  pub body_callable : (alloc : Global) (old : MutBor (List Lexeme)) → body_pre alloc depth old
  pub body_reads : (alloc : Global) (old new : MutBor (List Lexeme)) (r : Result (Vec tree.Stmt Global) (Failure NotScript))
      → body_post alloc depth old r new → ReadsAll (body_in depth old.now) r new.now
  pub statement_callable : (alloc : Global) (old : MutBor (List Lexeme)) → statement_pre alloc depth old
  pub statement_reads : (alloc : Global) (old new : MutBor (List Lexeme)) (r : Result tree.Stmt (Failure NotScript))
      → statement_post alloc depth old r new → Reads (statement_in depth old.now) r new.now
