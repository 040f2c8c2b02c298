-- Sizes of trees.
use Rattle.std.specs.Prelude.{ℕ, ◌+◌}
use Rattle.js_core.specs.Tree.{Expr, Exprs, MaybeExpr, Holes, Fields, Code, Stmt, Stmts, MaybeStmts, Declarators, ForInit, MaybeCatch, Cases, name, num, text, bool, null, this, list, literal, func, member, index, call, construct, unary, update, binary, logical_and, logical_or, conditional, assign, comma, no_exprs, then_expr, no_expr, one_expr, no_holes, then_hole, no_fields, then_field, code, var, function, expr, empty, block, if_else, do_while, while, for, for_in, continue, break, return, throw, try, switch, no_stmts, then_stmt, no_body, one_body, no_declarators, then_declarator, no_init, init_var, init_expr, no_catch, one_catch, no_cases, then_case}

abbrev mutual
  pub expr_size : Expr → ℕ
  expr_size (name a0) = 1
  expr_size (num a0) = 1
  expr_size (text a0) = 1
  expr_size (bool a0) = 1
  expr_size null = 1
  expr_size this = 1
  expr_size (list a0) = holes_size a0 + 1
  expr_size (literal a0) = fields_size a0 + 1
  expr_size (func a0) = code_size a0 + 1
  expr_size (member a0 a1) = expr_size a0 + 1
  expr_size (index a0 a1) = expr_size a0 + expr_size a1 + 1
  expr_size (call a0 a1) = expr_size a0 + exprs_size a1 + 1
  expr_size (construct a0 a1) = expr_size a0 + exprs_size a1 + 1
  expr_size (unary a0 a1) = expr_size a1 + 1
  expr_size (update a0 a1 a2) = expr_size a2 + 1
  expr_size (binary a0 a1 a2) = expr_size a1 + expr_size a2 + 1
  expr_size (logical_and a0 a1) = expr_size a0 + expr_size a1 + 1
  expr_size (logical_or a0 a1) = expr_size a0 + expr_size a1 + 1
  expr_size (conditional a0 a1 a2) = expr_size a0 + expr_size a1 + expr_size a2 + 1
  expr_size (assign a0 a1 a2) = expr_size a1 + expr_size a2 + 1
  expr_size (comma a0) = exprs_size a0 + 1

  pub exprs_size : Exprs → ℕ
  exprs_size no_exprs = 1
  exprs_size (then_expr a0 a1) = expr_size a0 + exprs_size a1 + 1

  pub maybe_expr_size : MaybeExpr → ℕ
  maybe_expr_size no_expr = 1
  maybe_expr_size (one_expr a0) = expr_size a0 + 1

  pub holes_size : Holes → ℕ
  holes_size no_holes = 1
  holes_size (then_hole a0 a1) = maybe_expr_size a0 + holes_size a1 + 1

  pub fields_size : Fields → ℕ
  fields_size no_fields = 1
  fields_size (then_field a0 a1 a2) = expr_size a1 + fields_size a2 + 1

  pub code_size : Code → ℕ
  code_size (code a0 a1 a2) = stmts_size a2 + 1

  pub stmt_size : Stmt → ℕ
  stmt_size (var a0) = declarators_size a0 + 1
  stmt_size (function a0) = code_size a0 + 1
  stmt_size (expr a0) = expr_size a0 + 1
  stmt_size empty = 1
  stmt_size (block a0) = stmts_size a0 + 1
  stmt_size (if_else a0 a1 a2) = expr_size a0 + stmts_size a1 + maybe_stmts_size a2 + 1
  stmt_size (do_while a0 a1) = stmts_size a0 + expr_size a1 + 1
  stmt_size (while a0 a1) = expr_size a0 + stmts_size a1 + 1
  stmt_size (for a0 a1 a2 a3) = for_init_size a0 + maybe_expr_size a1 + maybe_expr_size a2 + stmts_size a3 + 1
  stmt_size (for_in a0 a1 a2 a3) = expr_size a1 + expr_size a2 + stmts_size a3 + 1
  stmt_size continue = 1
  stmt_size break = 1
  stmt_size (return a0) = maybe_expr_size a0 + 1
  stmt_size (throw a0) = expr_size a0 + 1
  stmt_size (try a0 a1 a2) = stmts_size a0 + maybe_catch_size a1 + maybe_stmts_size a2 + 1
  stmt_size (switch a0 a1) = expr_size a0 + cases_size a1 + 1

  pub stmts_size : Stmts → ℕ
  stmts_size no_stmts = 1
  stmts_size (then_stmt a0 a1) = stmt_size a0 + stmts_size a1 + 1

  pub maybe_stmts_size : MaybeStmts → ℕ
  maybe_stmts_size no_body = 1
  maybe_stmts_size (one_body a0) = stmts_size a0 + 1

  pub declarators_size : Declarators → ℕ
  declarators_size no_declarators = 1
  declarators_size (then_declarator a0 a1 a2) = maybe_expr_size a1 + declarators_size a2 + 1

  pub for_init_size : ForInit → ℕ
  for_init_size no_init = 1
  for_init_size (init_var a0) = declarators_size a0 + 1
  for_init_size (init_expr a0) = expr_size a0 + 1

  pub maybe_catch_size : MaybeCatch → ℕ
  maybe_catch_size no_catch = 1
  maybe_catch_size (one_catch a0 a1) = stmts_size a1 + 1

  pub cases_size : Cases → ℕ
  cases_size no_cases = 1
  cases_size (then_case a0 a1 a2) = maybe_expr_size a0 + stmts_size a1 + cases_size a2 + 1
