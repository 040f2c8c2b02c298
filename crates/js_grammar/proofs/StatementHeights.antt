-- The parts of a statement that is not too high are not too high.
use Rattle.std.proofs.Common.{ℕ, ◌+◌, ◌≤◌, List, [], ◌∷◌, Option, Some, None, arith}
use Rattle.js_core.specs.Tree as tree
use Rattle.js_core.specs.Tree.{stmts_of, maybe_expr}
use Rattle.js_core.specs.Views.{declarators_of}
use Rattle.js_core.specs.Height.{maybe_expr_height, stmt_height, stmts_height, declarators_height, cases_height}
use Rattle.js_core.specs.declared.syntax.Declarator.{Declarator}
use Rattle.js_grammar.specs.Statements.{body_of, Clause, cases_from}
use Rattle.js_grammar.proofs.Heights.{max_left, max_right, Each, HoleFits}

abbrev pub StatementFits : ℕ → tree.Stmt → Type 0
StatementFits limit s = stmt_height s ≤ limit

pub statements_fit : (limit : ℕ) (found : List tree.Stmt) → stmts_height (stmts_of found) ≤ limit → Each (StatementFits limit) found
statements_fit limit [] h = tt
statements_fit limit (s ∷ rest) h = (max_left (stmt_height s) (stmts_height (stmts_of rest)) limit h, statements_fit limit rest (max_right (stmt_height s) (stmts_height (stmts_of rest)) limit h))

-- a body is as high as its statements, and a block is one higher
pub body_fits : (limit : ℕ) (s : tree.Stmt) → stmts_height (body_of s) + 1 ≤ limit → stmt_height s ≤ limit
body_fits limit (tree.block found) h = h
body_fits limit _ h = omega arith

pub maybe_fits : (limit : ℕ) (a : Option tree.Expr) → maybe_expr_height (maybe_expr a) ≤ limit → HoleFits limit a
maybe_fits limit None h = tt
maybe_fits limit (Some a) h = h

abbrev pub DeclaratorFits : ℕ → Declarator → Type 0
DeclaratorFits limit d = HoleFits limit d.value

pub declarators_fit : (limit : ℕ) (ds : List Declarator) → declarators_height (declarators_of ds) ≤ limit → Each (DeclaratorFits limit) ds
declarators_fit limit [] h = tt
declarators_fit limit (d ∷ ds) h =
    let le = max_left (maybe_expr_height (maybe_expr d.value) + 1) (declarators_height (declarators_of ds)) limit h in
    (maybe_fits limit d.value (omega arith), declarators_fit limit ds (max_right (maybe_expr_height (maybe_expr d.value) + 1) (declarators_height (declarators_of ds)) limit h))

abbrev pub ClauseFits : ℕ → Clause → Type 0
ClauseFits limit c = HoleFits limit c.0 × (stmts_height (stmts_of c.1) ≤ limit)

pub clauses_fit : (limit : ℕ) (cs : List Clause) → cases_height (cases_from cs) ≤ limit → Each (ClauseFits limit) cs
clauses_fit limit [] h = tt
clauses_fit limit (c ∷ cs) h =
    let test : maybe_expr_height (maybe_expr c.0) ≤ limit = omega arith in
    let list : stmts_height (stmts_of c.1) ≤ limit = omega arith in
    let later : cases_height (cases_from cs) ≤ limit = omega arith in
    ((maybe_fits limit c.0 test, list), clauses_fit limit cs later)
