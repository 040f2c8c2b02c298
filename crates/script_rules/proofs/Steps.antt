-- One more element of a list is looked at, where none before it passed.
use Rattle.std.proofs.Common.{◌≡◌, ◌≤◌, ◌-◌, ◌||◌, Bool, false, List, [], ◌∷◌, length, get_or, take, drop, arith}
use Rattle.std.proofs.lemmas.Grind.{common_steps}
use Rattle.js_core.specs.Tree as tree
use Rattle.js_core.specs.Tree.{exprs_of, maybe_expr, stmts_of}
use Rattle.js_core.specs.Views.{cases_of}
use Rattle.js_core.specs.declared.syntax.Case.{Case}
use Rattle.scope_analysis.specs.Nodes.{Node, cases_any, expr_any, exprs_any, maybe_expr_any, stmt_any, stmts_any}

pub statements_step : (test : Node → Bool) (found here whole : Bool) (ss : List tree.Stmt) (s : tree.Stmt) → 1 ≤ length ss → s ≡ get_or ss 0 s → here ≡ stmt_any test s → found ≡ false → (found || stmts_any test (stmts_of ss)) ≡ whole → (here || stmts_any test (stmts_of (take (length ss - 1) (drop 1 ss)))) ≡ whole
statements_step test found here whole [] s h is at none left = absurd (omega arith)
statements_step test found here whole (x ∷ xs) s h is at none left = grind (arith, common_steps)

pub expressions_step : (test : Node → Bool) (found here whole : Bool) (es : List tree.Expr) (e : tree.Expr) → 1 ≤ length es → e ≡ get_or es 0 e → here ≡ expr_any test false e → found ≡ false → (found || exprs_any test (exprs_of es)) ≡ whole → (here || exprs_any test (exprs_of (take (length es - 1) (drop 1 es)))) ≡ whole
expressions_step test found here whole [] e h is at none left = absurd (omega arith)
expressions_step test found here whole (x ∷ xs) e h is at none left = grind (arith, common_steps)

pub cases_step : (test : Node → Bool) (found label body whole : Bool) (cs : List Case) (c : Case) → 1 ≤ length cs → c ≡ get_or cs 0 c → label ≡ maybe_expr_any test (maybe_expr c.test) → body ≡ stmts_any test (stmts_of c.body.items) → found ≡ false → label ≡ false
    → (found || cases_any test (cases_of cs)) ≡ whole → (body || cases_any test (cases_of (take (length cs - 1) (drop 1 cs)))) ≡ whole
cases_step test found label body whole [] c h is at in_body none free left = absurd (omega arith)
cases_step test found label body whole (x ∷ xs) c h is at in_body none free left = grind (arith, common_steps)
