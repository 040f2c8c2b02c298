-- Opened parts of a script of a plain page are low enough for a tree.
use Rattle.std.proofs.Common.{ℕ, ◌≤◌, arith}
use Rattle.js_core.specs.Height.{cases_height, declarators_height, expr_height, exprs_height, fields_height, for_init_height, holes_height, maybe_catch_height, maybe_expr_height, maybe_stmts_height, stmts_height}
use Rattle.js_core.specs.Tree as tree
use Rattle.early_rules.specs.Limits.{plain_height_limit}
use Rattle.instrumenter.specs.Around.{Around, assignments}
use Rattle.instrumenter.specs.Opening.{open_cases, open_catch, open_declarators, open_expr, open_exprs, open_fields, open_holes, open_init, open_maybe, open_maybe_body, open_stmts}
use Rattle.instrumenter.proofs.Heights.{assignments_fit, cases_fit, catch_fits, declarators_fit, expr_fits, exprs_fit, fields_fit, holes_fit, init_fits, maybe_fits, maybe_stmts_fit, stmts_fit}

pub expr_low : (a : Around) (n : ℕ) (e : tree.Expr) → expr_height e ≤ plain_height_limit → expr_height (open_expr a n e) ≤ 401
expr_low a n e h = omega (arith, h, (expr_fits a n e).fits)

pub exprs_low : (a : Around) (n : ℕ) (es : tree.Exprs) → exprs_height es ≤ plain_height_limit → exprs_height (open_exprs a n es) ≤ 401
exprs_low a n es h = omega (arith, h, (exprs_fit a n es).fits)

pub holes_low : (a : Around) (n : ℕ) (es : tree.Holes) → holes_height es ≤ plain_height_limit → holes_height (open_holes a n es) ≤ 401
holes_low a n es h = omega (arith, h, (holes_fit a n es).fits)

pub fields_low : (a : Around) (n : ℕ) (fs : tree.Fields) → fields_height fs ≤ plain_height_limit → fields_height (open_fields a n fs) ≤ 401
fields_low a n fs h = omega (arith, h, (fields_fit a n fs).fits)

pub maybe_low : (a : Around) (n : ℕ) (e : tree.MaybeExpr) → maybe_expr_height e ≤ plain_height_limit → maybe_expr_height (open_maybe a n e) ≤ 401
maybe_low a n e h = omega (arith, h, (maybe_fits a n e).fits)

pub stmts_low : (a : Around) (n : ℕ) (ss : tree.Stmts) → stmts_height ss ≤ plain_height_limit → stmts_height (open_stmts a n ss) ≤ 401
stmts_low a n ss h = omega (arith, h, (stmts_fit a n ss).fits)

pub maybe_stmts_low : (a : Around) (n : ℕ) (ss : tree.MaybeStmts) → maybe_stmts_height ss ≤ plain_height_limit
    → maybe_stmts_height (open_maybe_body a n ss) ≤ 401
maybe_stmts_low a n ss h = omega (arith, h, (maybe_stmts_fit a n ss).fits)

pub catch_low : (a : Around) (n : ℕ) (c : tree.MaybeCatch) → maybe_catch_height c ≤ plain_height_limit → maybe_catch_height (open_catch a n c) ≤ 401
catch_low a n c h = omega (arith, h, (catch_fits a n c).fits)

pub cases_low : (a : Around) (n : ℕ) (cs : tree.Cases) → cases_height cs ≤ plain_height_limit → cases_height (open_cases a n cs) ≤ 401
cases_low a n cs h = omega (arith, h, (cases_fit a n cs).fits)

pub init_low : (a : Around) (n : ℕ) (i : tree.ForInit) → for_init_height i ≤ plain_height_limit → for_init_height (open_init a n i) ≤ 401
init_low a n i h = omega (arith, h, (init_fits a n i).fits)

pub declarators_low : (a : Around) (n : ℕ) (ds : tree.Declarators) → declarators_height ds ≤ plain_height_limit
    → declarators_height (open_declarators a n ds) ≤ 401
declarators_low a n ds h = omega (arith, h, (declarators_fit a n ds).fits)

pub assignments_low : (a : Around) (n : ℕ) (ds : tree.Declarators) → declarators_height ds ≤ plain_height_limit
    → exprs_height (assignments a (open_declarators a n ds)) ≤ 400
assignments_low a n ds h = omega (arith, h, assignments_fit a n ds)
