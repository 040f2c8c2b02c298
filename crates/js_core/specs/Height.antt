-- How high a tree is: an expression without parts is 1, any other node is 1 more than its highest part.
-- A function expression is 1 more than its highest statement, a function declaration 3 more. What is absent is 0,
-- and a `for` header's declarations, a case and a catch clause add nothing of their own.
use Rattle.std.specs.Prelude.{ℕ, ◌+◌, max}
use Rattle.js_core.specs.Tree as tree
use Rattle.js_core.specs.Tree.{name, num, text, bool, null, this, list, literal, func, member, index, call, construct, unary, update, binary, logical_and, logical_or, conditional, assign, comma, no_exprs, then_expr, no_expr, one_expr, no_holes, then_hole, no_fields, then_field, code, var, function, expr, empty, block, if_else, do_while, while, for, for_in, continue, break, return, throw, try, switch, no_stmts, then_stmt, no_body, one_body, no_declarators, then_declarator, no_init, init_var, init_expr, no_catch, one_catch, no_cases, then_case}

abbrev mutual
  pub expr_height : tree.Expr → ℕ
  expr_height (name x) = 1
  expr_height (num n) = 1
  expr_height (text x) = 1
  expr_height (bool b) = 1
  expr_height null = 1
  expr_height this = 1
  expr_height (list es) = holes_height es + 1
  expr_height (literal fs) = fields_height fs + 1
  expr_height (func c) = code_height c + 1
  expr_height (member e x) = expr_height e + 1
  expr_height (index a b) = max (expr_height a) (expr_height b) + 1
  expr_height (call f es) = max (expr_height f) (exprs_height es) + 1
  expr_height (construct f es) = max (expr_height f) (exprs_height es) + 1
  expr_height (unary op a) = expr_height a + 1
  expr_height (update up prefix a) = expr_height a + 1
  expr_height (binary op a b) = max (expr_height a) (expr_height b) + 1
  expr_height (logical_and a b) = max (expr_height a) (expr_height b) + 1
  expr_height (logical_or a b) = max (expr_height a) (expr_height b) + 1
  expr_height (conditional a b c) = max (expr_height a) (max (expr_height b) (expr_height c)) + 1
  expr_height (assign op a b) = max (expr_height a) (expr_height b) + 1
  expr_height (comma es) = exprs_height es + 1

  pub exprs_height : tree.Exprs → ℕ
  exprs_height no_exprs = 0
  exprs_height (then_expr e es) = max (expr_height e) (exprs_height es)

  pub maybe_expr_height : tree.MaybeExpr → ℕ
  maybe_expr_height no_expr = 0
  maybe_expr_height (one_expr e) = expr_height e

  pub holes_height : tree.Holes → ℕ
  holes_height no_holes = 0
  holes_height (then_hole e es) = max (maybe_expr_height e) (holes_height es)

  pub fields_height : tree.Fields → ℕ
  fields_height no_fields = 0
  fields_height (then_field x e fs) = max (expr_height e) (fields_height fs)

  -- the highest statement of a function's body
  pub code_height : tree.Code → ℕ
  code_height (code x formals body) = stmts_height body

  pub stmt_height : tree.Stmt → ℕ
  stmt_height (var ds) = declarators_height ds + 1
  stmt_height (function c) = code_height c + 3
  stmt_height (expr e) = expr_height e + 1
  stmt_height empty = 1
  stmt_height (block ss) = stmts_height ss + 1
  stmt_height (if_else e a b) = max (expr_height e) (max (stmts_height a) (maybe_stmts_height b)) + 1
  stmt_height (do_while body e) = max (stmts_height body) (expr_height e) + 1
  stmt_height (while e body) = max (expr_height e) (stmts_height body) + 1
  stmt_height (for i t s body) = max (for_init_height i) (max (maybe_expr_height t) (max (maybe_expr_height s) (stmts_height body))) + 1
  stmt_height (for_in declared t e body) = max (expr_height t) (max (expr_height e) (stmts_height body)) + 1
  stmt_height continue = 1
  stmt_height break = 1
  stmt_height (return e) = maybe_expr_height e + 1
  stmt_height (throw e) = expr_height e + 1
  stmt_height (try b c l) = max (stmts_height b) (max (maybe_catch_height c) (maybe_stmts_height l)) + 1
  stmt_height (switch e cs) = max (expr_height e) (cases_height cs) + 1

  -- the highest statement; the height of a script
  pub stmts_height : tree.Stmts → ℕ
  stmts_height no_stmts = 0
  stmts_height (then_stmt s ss) = max (stmt_height s) (stmts_height ss)

  pub maybe_stmts_height : tree.MaybeStmts → ℕ
  maybe_stmts_height no_body = 0
  maybe_stmts_height (one_body ss) = stmts_height ss

  -- a declarator is 1 more than its initialiser
  pub declarators_height : tree.Declarators → ℕ
  declarators_height no_declarators = 0
  declarators_height (then_declarator x e ds) = max (maybe_expr_height e + 1) (declarators_height ds)

  pub for_init_height : tree.ForInit → ℕ
  for_init_height no_init = 0
  for_init_height (init_var ds) = declarators_height ds
  for_init_height (init_expr e) = expr_height e

  pub maybe_catch_height : tree.MaybeCatch → ℕ
  maybe_catch_height no_catch = 0
  maybe_catch_height (one_catch x ss) = stmts_height ss

  pub cases_height : tree.Cases → ℕ
  cases_height no_cases = 0
  cases_height (then_case e ss cs) = max (maybe_expr_height e) (max (stmts_height ss) (cases_height cs))
