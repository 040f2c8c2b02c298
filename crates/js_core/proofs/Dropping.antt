-- What is let go of with a node is smaller than it: each list of its parts.
use Rattle.std.proofs.Common.{ℕ, ◌≤◌, ◌+◌, ◌*◌, List, [], ◌∷◌, Option, Some, None, arith}
use denote.Param.Weighed.{most, w_this}
use Rattle.js_core.specs.Tree as tree
use Rattle.js_core.specs.Tree.{exprs_of, holes_of, fields_of, stmts_of}
use Rattle.js_core.specs.Sizes.{exprs_size, holes_size, fields_size, stmts_size, declarators_size, cases_size}
use Rattle.js_core.specs.Views.{declarators_of, cases_of}
use Rattle.js_core.specs.Falls.{maybe_falls, stmts_fall}
use Rattle.js_core.specs.declared.syntax.Declarator.{Declarator}
use Rattle.js_core.specs.declared.syntax.Case.{Case}
use Rattle.js_core.specs.declared.syntax.Code.TheDeep.{size-Expr, size-Stmt, size-Declarator, size-Case, deep-Declarator}
use Rattle.js_core.specs.Sizes.{stmt_size}
use Rattle.js_core.specs.declared.syntax.Code.TheShapes.{weighed-ExprNode-List-0-at-1, weighed-ExprNode-Literal-0-at-2}

pub exprs_lower : (es : List tree.Expr) → most (w_this.weight tree.Expr size-Expr) es ≤ 5 * exprs_size (exprs_of es)
exprs_lower [] = omega arith
exprs_lower (e ∷ es) = omega (arith, exprs_lower es)

pub holes_lower : (es : List (Option tree.Expr)) → most (weighed-ExprNode-List-0-at-1.weight tree.Expr size-Expr) es ≤ 5 * holes_size (holes_of es)
holes_lower [] = omega arith
holes_lower (None ∷ es) = omega (arith, holes_lower es)
holes_lower (Some e ∷ es) = omega (arith, holes_lower es)

pub fields_lower : (fs : List (List ℕ × tree.Expr)) → most (weighed-ExprNode-Literal-0-at-2.weight tree.Expr size-Expr) fs ≤ 5 * fields_size (fields_of fs)
fields_lower [] = omega arith
fields_lower (f ∷ fs) = omega (arith, fields_lower fs)

pub stmts_lower : (ss : List tree.Stmt) → most (w_this.weight tree.Stmt size-Stmt) ss ≤ 5 * stmts_size (stmts_of ss)
stmts_lower [] = omega arith
stmts_lower (s ∷ ss) = omega (arith, stmts_lower ss)

pub declarators_lower : (ds : List Declarator) → most (w_this.weight Declarator size-Declarator) ds ≤ 5 * declarators_size (declarators_of ds)
declarators_lower [] = omega arith
declarators_lower (d ∷ ds) = omega (arith, maybe_falls d.value, declarators_lower ds)

pub cases_lower : (cs : List Case) → most (w_this.weight Case size-Case) cs ≤ 5 * cases_size (cases_of cs)
cases_lower [] = omega arith
cases_lower (c ∷ cs) = omega (arith, maybe_falls c.test, stmts_fall c.body.items, cases_lower cs)

-- What is let go of with a catch clause, or with what stands first in a `for`.
pub body_lower : (ss : List tree.Stmt) → most (w_this.weight tree.Stmt size-Stmt) ss ≤ 5 * most (w_this.weight tree.Stmt (λ s. stmt_size s + 1)) ss
body_lower [] = omega arith
body_lower (s ∷ ss) = omega (arith, body_lower ss)

pub header_lower : (ds : List Declarator) → most (w_this.weight Declarator size-Declarator) ds ≤ 5 * most (w_this.weight Declarator deep-Declarator) ds + 1
header_lower [] = omega arith
header_lower (d ∷ ds) = omega (arith, header_lower ds)

pub ruleset lower = (exprs_lower, holes_lower, fields_lower, stmts_lower, declarators_lower, cases_lower)
