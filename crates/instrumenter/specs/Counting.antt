-- How many scopes of a piece have an object. Objects are numbered in the order in which their scopes begin in the source.
use Rattle.std.specs.Prelude.{ℕ, ◌+◌, Bool, true, false, List, [], ◌∷◌}
use Rattle.js_core.specs.Tree as tree
use Rattle.js_core.specs.Tree.{name, num, text, bool, null, this, list, literal, func, member, index, call, construct, unary, update, binary, logical_and, logical_or, conditional, assign, comma, no_exprs, then_expr, no_expr, one_expr, no_holes, then_hole, no_fields, then_field, code, var, function, expr, empty, block, if_else, do_while, while, for, for_in, continue, break, return, throw, try, switch, no_stmts, then_stmt, no_body, one_body, no_declarators, then_declarator, no_init, init_var, init_expr, no_catch, one_catch, no_cases, then_case}
use Rattle.instrumenter.specs.Fields.{clause_fields, declaration_fields, expression_fields, has_fields}

abbrev pub one_where : Bool → ℕ
one_where true = 1
one_where false = 0

-- 1 where there are fields
abbrev pub count_of : List (List ℕ) → ℕ
count_of fields = one_where (has_fields fields)

abbrev mutual
  pub expr_scopes : tree.Expr → ℕ
  expr_scopes (name x) = 0
  expr_scopes (num n) = 0
  expr_scopes (text x) = 0
  expr_scopes (bool b) = 0
  expr_scopes null = 0
  expr_scopes this = 0
  expr_scopes (list es) = holes_scopes es
  expr_scopes (literal fs) = fields_scopes fs
  expr_scopes (func (code x formals body)) = count_of (expression_fields (code x formals body)) + stmts_scopes body
  expr_scopes (member e x) = expr_scopes e
  expr_scopes (index a b) = expr_scopes a + expr_scopes b
  expr_scopes (call f es) = expr_scopes f + exprs_scopes es
  expr_scopes (construct f es) = expr_scopes f + exprs_scopes es
  expr_scopes (unary op a) = expr_scopes a
  expr_scopes (update up prefix a) = expr_scopes a
  expr_scopes (binary op a b) = expr_scopes a + expr_scopes b
  expr_scopes (logical_and a b) = expr_scopes a + expr_scopes b
  expr_scopes (logical_or a b) = expr_scopes a + expr_scopes b
  expr_scopes (conditional a b c) = expr_scopes a + (expr_scopes b + expr_scopes c)
  expr_scopes (assign op a b) = expr_scopes a + expr_scopes b
  expr_scopes (comma es) = exprs_scopes es

  pub exprs_scopes : tree.Exprs → ℕ
  exprs_scopes no_exprs = 0
  exprs_scopes (then_expr e es) = expr_scopes e + exprs_scopes es

  pub maybe_expr_scopes : tree.MaybeExpr → ℕ
  maybe_expr_scopes no_expr = 0
  maybe_expr_scopes (one_expr e) = expr_scopes e

  pub holes_scopes : tree.Holes → ℕ
  holes_scopes no_holes = 0
  holes_scopes (then_hole e es) = maybe_expr_scopes e + holes_scopes es

  pub fields_scopes : tree.Fields → ℕ
  fields_scopes no_fields = 0
  fields_scopes (then_field x e fs) = expr_scopes e + fields_scopes fs

  pub stmt_scopes : tree.Stmt → ℕ
  stmt_scopes (var ds) = declarators_scopes ds
  stmt_scopes (function (code x formals body)) = count_of (declaration_fields (code x formals body)) + stmts_scopes body
  stmt_scopes (expr e) = expr_scopes e
  stmt_scopes empty = 0
  stmt_scopes (block ss) = stmts_scopes ss
  stmt_scopes (if_else e a b) = expr_scopes e + (stmts_scopes a + maybe_stmts_scopes b)
  stmt_scopes (do_while body e) = stmts_scopes body + expr_scopes e
  stmt_scopes (while e body) = expr_scopes e + stmts_scopes body
  stmt_scopes (for i t s body) = init_scopes i + (maybe_expr_scopes t + (maybe_expr_scopes s + stmts_scopes body))
  stmt_scopes (for_in declared t e body) = expr_scopes t + (expr_scopes e + stmts_scopes body)
  stmt_scopes continue = 0
  stmt_scopes break = 0
  stmt_scopes (return e) = maybe_expr_scopes e
  stmt_scopes (throw e) = expr_scopes e
  stmt_scopes (try b c l) = stmts_scopes b + (catch_scopes c + maybe_stmts_scopes l)
  stmt_scopes (switch e cs) = expr_scopes e + cases_scopes cs

  pub stmts_scopes : tree.Stmts → ℕ
  stmts_scopes no_stmts = 0
  stmts_scopes (then_stmt s ss) = stmt_scopes s + stmts_scopes ss

  pub maybe_stmts_scopes : tree.MaybeStmts → ℕ
  maybe_stmts_scopes no_body = 0
  maybe_stmts_scopes (one_body ss) = stmts_scopes ss

  pub declarators_scopes : tree.Declarators → ℕ
  declarators_scopes no_declarators = 0
  declarators_scopes (then_declarator x e ds) = maybe_expr_scopes e + declarators_scopes ds

  pub init_scopes : tree.ForInit → ℕ
  init_scopes no_init = 0
  init_scopes (init_var ds) = declarators_scopes ds
  init_scopes (init_expr e) = expr_scopes e

  pub catch_scopes : tree.MaybeCatch → ℕ
  catch_scopes no_catch = 0
  catch_scopes (one_catch x ss) = count_of (clause_fields x ss) + stmts_scopes ss

  pub cases_scopes : tree.Cases → ℕ
  cases_scopes no_cases = 0
  cases_scopes (then_case e ss cs) = maybe_expr_scopes e + (stmts_scopes ss + cases_scopes cs)

-- those of all scripts
abbrev pub scripts_scopes : List tree.Stmts → ℕ
scripts_scopes [] = 0
scripts_scopes (body ∷ bodies) = stmts_scopes body + scripts_scopes bodies
