-- No function in a low tree is higher than a form page may have it.
use Rattle.std.proofs.Common.{◌≡◌, refl, ℕ, ◌+◌, ◌≤◌, Bool, true, false, not, ◌&&◌, nat_lt, arith}
use Rattle.std.proofs.lemmas.Bool.{and_right, le-ltb, or_from}
use Rattle.js_core.specs.Height.{cases_height, code_height, declarators_height, expr_height, exprs_height, fields_height, for_init_height, holes_height, maybe_catch_height, maybe_expr_height, maybe_stmts_height, stmt_height, stmts_height}
use Rattle.js_core.specs.Tree as tree
use Rattle.js_core.specs.Tree.{name, num, text, bool, null, this, list, literal, func, member, index, call, construct, unary, update, binary, logical_and, logical_or, conditional, assign, comma, no_exprs, then_expr, no_expr, one_expr, no_holes, then_hole, no_fields, then_field, code, var, function, expr, empty, block, if_else, do_while, while, for, for_in, continue, break, return, throw, try, switch, no_stmts, then_stmt, no_body, one_body, no_declarators, then_declarator, no_init, init_var, init_expr, no_catch, one_catch, no_cases, then_case}
use Rattle.script_rules.specs.Form.{has_high_function}
use Rattle.early_rules.specs.FormNodes.{is_factory, is_high_function}
use Rattle.early_rules.specs.Limits.{function_height_limit}
use Rattle.scope_analysis.specs.Nodes.{cases_any, catch_any, code_any, declarators_any, expr_any, exprs_any, fields_any, holes_any, init_any, maybe_expr_any, maybe_stmts_any, stmt_any, stmts_any}

is_low : (n : ℕ) → n + 1 ≤ function_height_limit → nat_lt function_height_limit (n + 1) ≡ false
is_low n h = le-ltb function_height_limit (n + 1) h

mutual
  expr_low : (b : Bool) (e : tree.Expr) → expr_height e ≤ function_height_limit → expr_any is_high_function b e ≡ false
  expr_low b (name x) h = refl
  expr_low b (num n) h = refl
  expr_low b (text x) h = refl
  expr_low b (bool c) h = refl
  expr_low b null h = refl
  expr_low b this h = refl
  expr_low b (list es) h = holes_low es (omega (arith, h))
  expr_low b (literal fs) h = fields_low fs (omega (arith, h))
  expr_low b (func c) h =
      or_from _ _ (and_right (not (b && is_factory c)) (nat_lt function_height_limit (code_height c + 1)) (is_low (code_height c) h)) (code_low c (omega (arith, h)))
  expr_low b (member e x) h = expr_low false e (omega (arith, h))
  expr_low b (index a c) h = or_from _ _ (expr_low false a (omega (arith, h))) (expr_low false c (omega (arith, h)))
  expr_low b (call f es) h = or_from _ _ (expr_low true f (omega (arith, h))) (exprs_low es (omega (arith, h)))
  expr_low b (construct f es) h = or_from _ _ (expr_low false f (omega (arith, h))) (exprs_low es (omega (arith, h)))
  expr_low b (unary op a) h = expr_low false a (omega (arith, h))
  expr_low b (update up prefix a) h = expr_low false a (omega (arith, h))
  expr_low b (binary op a c) h = or_from _ _ (expr_low false a (omega (arith, h))) (expr_low false c (omega (arith, h)))
  expr_low b (logical_and a c) h = or_from _ _ (expr_low false a (omega (arith, h))) (expr_low false c (omega (arith, h)))
  expr_low b (logical_or a c) h = or_from _ _ (expr_low false a (omega (arith, h))) (expr_low false c (omega (arith, h)))
  expr_low b (conditional a c d) h =
      or_from _ _ (expr_low false a (omega (arith, h))) (or_from _ _ (expr_low false c (omega (arith, h))) (expr_low false d (omega (arith, h))))
  expr_low b (assign op a c) h = or_from _ _ (expr_low false a (omega (arith, h))) (expr_low false c (omega (arith, h)))
  expr_low b (comma es) h = exprs_low es (omega (arith, h))

  exprs_low : (es : tree.Exprs) → exprs_height es ≤ function_height_limit → exprs_any is_high_function es ≡ false
  exprs_low no_exprs h = refl
  exprs_low (then_expr e es) h = or_from _ _ (expr_low false e (omega (arith, h))) (exprs_low es (omega (arith, h)))

  maybe_expr_low : (e : tree.MaybeExpr) → maybe_expr_height e ≤ function_height_limit → maybe_expr_any is_high_function e ≡ false
  maybe_expr_low no_expr h = refl
  maybe_expr_low (one_expr e) h = expr_low false e h

  holes_low : (es : tree.Holes) → holes_height es ≤ function_height_limit → holes_any is_high_function es ≡ false
  holes_low no_holes h = refl
  holes_low (then_hole e es) h = or_from _ _ (maybe_expr_low e (omega (arith, h))) (holes_low es (omega (arith, h)))

  fields_low : (fs : tree.Fields) → fields_height fs ≤ function_height_limit → fields_any is_high_function fs ≡ false
  fields_low no_fields h = refl
  fields_low (then_field x e fs) h = or_from _ _ (expr_low false e (omega (arith, h))) (fields_low fs (omega (arith, h)))

  code_low : (c : tree.Code) → code_height c ≤ function_height_limit → code_any is_high_function c ≡ false
  code_low (code x formals body) h = stmts_low body (omega (arith, h))

  stmt_low : (s : tree.Stmt) → stmt_height s ≤ function_height_limit + 1 → stmt_any is_high_function s ≡ false
  stmt_low (var ds) h = declarators_low ds (omega (arith, h))
  stmt_low (function c) h = or_from _ _ (is_low (code_height c) (omega (arith, h))) (code_low c (omega (arith, h)))
  stmt_low (expr e) h = expr_low false e (omega (arith, h))
  stmt_low empty h = refl
  stmt_low (block ss) h = stmts_low ss (omega (arith, h))
  stmt_low (if_else e a c) h =
      or_from _ _ (expr_low false e (omega (arith, h))) (or_from _ _ (stmts_low a (omega (arith, h))) (maybe_stmts_low c (omega (arith, h))))
  stmt_low (do_while body e) h = or_from _ _ (stmts_low body (omega (arith, h))) (expr_low false e (omega (arith, h)))
  stmt_low (while e body) h = or_from _ _ (expr_low false e (omega (arith, h))) (stmts_low body (omega (arith, h)))
  stmt_low (for i t s body) h =
      or_from _ _ (init_low i (omega (arith, h)))
      (or_from _ _ (maybe_expr_low t (omega (arith, h))) (or_from _ _ (maybe_expr_low s (omega (arith, h))) (stmts_low body (omega (arith, h)))))
  stmt_low (for_in declared t e body) h =
      or_from _ _ (expr_low false t (omega (arith, h))) (or_from _ _ (expr_low false e (omega (arith, h))) (stmts_low body (omega (arith, h))))
  stmt_low continue h = refl
  stmt_low break h = refl
  stmt_low (return e) h = maybe_expr_low e (omega (arith, h))
  stmt_low (throw e) h = expr_low false e (omega (arith, h))
  stmt_low (try ss c l) h =
      or_from _ _ (stmts_low ss (omega (arith, h))) (or_from _ _ (catch_low c (omega (arith, h))) (maybe_stmts_low l (omega (arith, h))))
  stmt_low (switch e cs) h = or_from _ _ (expr_low false e (omega (arith, h))) (cases_low cs (omega (arith, h)))

  stmts_low : (ss : tree.Stmts) → stmts_height ss ≤ function_height_limit + 1 → stmts_any is_high_function ss ≡ false
  stmts_low no_stmts h = refl
  stmts_low (then_stmt s ss) h = or_from _ _ (stmt_low s (omega (arith, h))) (stmts_low ss (omega (arith, h)))

  maybe_stmts_low : (ss : tree.MaybeStmts) → maybe_stmts_height ss ≤ function_height_limit → maybe_stmts_any is_high_function ss ≡ false
  maybe_stmts_low no_body h = refl
  maybe_stmts_low (one_body ss) h = stmts_low ss (omega (arith, h))

  declarators_low : (ds : tree.Declarators) → declarators_height ds ≤ function_height_limit → declarators_any is_high_function ds ≡ false
  declarators_low no_declarators h = refl
  declarators_low (then_declarator x e ds) h = or_from _ _ (maybe_expr_low e (omega (arith, h))) (declarators_low ds (omega (arith, h)))

  init_low : (i : tree.ForInit) → for_init_height i ≤ function_height_limit → init_any is_high_function i ≡ false
  init_low no_init h = refl
  init_low (init_var ds) h = declarators_low ds h
  init_low (init_expr e) h = expr_low false e h

  catch_low : (c : tree.MaybeCatch) → maybe_catch_height c ≤ function_height_limit → catch_any is_high_function c ≡ false
  catch_low no_catch h = refl
  catch_low (one_catch x ss) h = stmts_low ss (omega (arith, h))

  cases_low : (cs : tree.Cases) → cases_height cs ≤ function_height_limit → cases_any is_high_function cs ≡ false
  cases_low no_cases h = refl
  cases_low (then_case e ss cs) h =
      or_from _ _ (maybe_expr_low e (omega (arith, h))) (or_from _ _ (stmts_low ss (omega (arith, h))) (cases_low cs (omega (arith, h))))

pub expr_has_no_high_function : (b : Bool) (e : tree.Expr) → expr_height e ≤ function_height_limit → expr_any is_high_function b e ≡ false
expr_has_no_high_function b e h = expr_low b e h

pub has_no_high_function : (ss : tree.Stmts) → stmts_height ss ≤ function_height_limit + 1 → has_high_function ss ≡ false
has_no_high_function ss h = stmts_low ss h
