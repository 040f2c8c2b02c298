-- The nodes of a tree, through nested functions, and whether one of them passes a test.
use Rattle.std.specs.Prelude.{ℕ, Bool, true, false, ◌||◌, List}
use Rattle.js_core.specs.Tree as tree
use Rattle.js_core.specs.Tree.{name, num, text, bool, null, this, list, literal, func, member, index, call, construct, unary, update, binary, logical_and, logical_or, conditional, assign, comma, no_exprs, then_expr, no_expr, one_expr, no_holes, then_hole, no_fields, then_field, code, var, function, expr, empty, block, if_else, do_while, while, for, for_in, continue, break, return, throw, try, switch, no_stmts, then_stmt, no_body, one_body, no_declarators, then_declarator, no_init, init_var, init_expr, no_catch, one_catch, no_cases, then_case}

pub data Node : Type 0 where
  -- an expression, and whether it is the callee of a call
  expression : Bool → tree.Expr → Node
  statement : tree.Stmt → Node
  -- a catch clause: its parameter and its block
  clause : List ℕ → tree.Stmts → Node

-- what these give of a function expression, a function declaration and a catch clause; no other node passes
abbrev pub of_scopes : (tree.Code → Bool) → (tree.Code → Bool) → (List ℕ → tree.Stmts → Bool) → Node → Bool
of_scopes of_expression of_declaration of_clause (expression is_callee (func c)) = of_expression c
of_scopes of_expression of_declaration of_clause (statement (function c)) = of_declaration c
of_scopes of_expression of_declaration of_clause (clause x ss) = of_clause x ss
of_scopes of_expression of_declaration of_clause n = false

-- whether a node of the piece passes the test, the piece itself included
abbrev mutual
  pub expr_any : (Node → Bool) → Bool → tree.Expr → Bool
  expr_any test is_callee (name x) = test (expression is_callee (name x))
  expr_any test is_callee (num n) = test (expression is_callee (num n))
  expr_any test is_callee (text x) = test (expression is_callee (text x))
  expr_any test is_callee (bool b) = test (expression is_callee (bool b))
  expr_any test is_callee null = test (expression is_callee null)
  expr_any test is_callee this = test (expression is_callee this)
  expr_any test is_callee (list es) = test (expression is_callee (list es)) || holes_any test es
  expr_any test is_callee (literal fs) = test (expression is_callee (literal fs)) || fields_any test fs
  expr_any test is_callee (func c) = test (expression is_callee (func c)) || code_any test c
  expr_any test is_callee (member e x) = test (expression is_callee (member e x)) || expr_any test false e
  expr_any test is_callee (index a b) = test (expression is_callee (index a b)) || (expr_any test false a || expr_any test false b)
  expr_any test is_callee (call f es) = test (expression is_callee (call f es)) || (expr_any test true f || exprs_any test es)
  expr_any test is_callee (construct f es) = test (expression is_callee (construct f es)) || (expr_any test false f || exprs_any test es)
  expr_any test is_callee (unary op a) = test (expression is_callee (unary op a)) || expr_any test false a
  expr_any test is_callee (update up prefix a) = test (expression is_callee (update up prefix a)) || expr_any test false a
  expr_any test is_callee (binary op a b) = test (expression is_callee (binary op a b)) || (expr_any test false a || expr_any test false b)
  expr_any test is_callee (logical_and a b) = test (expression is_callee (logical_and a b)) || (expr_any test false a || expr_any test false b)
  expr_any test is_callee (logical_or a b) = test (expression is_callee (logical_or a b)) || (expr_any test false a || expr_any test false b)
  expr_any test is_callee (conditional a b c) = test (expression is_callee (conditional a b c)) || (expr_any test false a || (expr_any test false b || expr_any test false c))
  expr_any test is_callee (assign op a b) = test (expression is_callee (assign op a b)) || (expr_any test false a || expr_any test false b)
  expr_any test is_callee (comma es) = test (expression is_callee (comma es)) || exprs_any test es

  pub exprs_any : (Node → Bool) → tree.Exprs → Bool
  exprs_any test no_exprs = false
  exprs_any test (then_expr e es) = expr_any test false e || exprs_any test es

  pub maybe_expr_any : (Node → Bool) → tree.MaybeExpr → Bool
  maybe_expr_any test no_expr = false
  maybe_expr_any test (one_expr e) = expr_any test false e

  pub holes_any : (Node → Bool) → tree.Holes → Bool
  holes_any test no_holes = false
  holes_any test (then_hole e es) = maybe_expr_any test e || holes_any test es

  pub fields_any : (Node → Bool) → tree.Fields → Bool
  fields_any test no_fields = false
  fields_any test (then_field x e fs) = expr_any test false e || fields_any test fs

  pub code_any : (Node → Bool) → tree.Code → Bool
  code_any test (code x formals body) = stmts_any test body

  pub stmt_any : (Node → Bool) → tree.Stmt → Bool
  stmt_any test (var ds) = test (statement (var ds)) || declarators_any test ds
  stmt_any test (function c) = test (statement (function c)) || code_any test c
  stmt_any test (expr e) = test (statement (expr e)) || expr_any test false e
  stmt_any test empty = test (statement empty)
  stmt_any test (block ss) = test (statement (block ss)) || stmts_any test ss
  stmt_any test (if_else e a b) = test (statement (if_else e a b)) || (expr_any test false e || (stmts_any test a || maybe_stmts_any test b))
  stmt_any test (do_while body e) = test (statement (do_while body e)) || (stmts_any test body || expr_any test false e)
  stmt_any test (while e body) = test (statement (while e body)) || (expr_any test false e || stmts_any test body)
  stmt_any test (for i t s body) = test (statement (for i t s body)) || (init_any test i || (maybe_expr_any test t || (maybe_expr_any test s || stmts_any test body)))
  stmt_any test (for_in declared t e body) = test (statement (for_in declared t e body)) || (expr_any test false t || (expr_any test false e || stmts_any test body))
  stmt_any test continue = test (statement continue)
  stmt_any test break = test (statement break)
  stmt_any test (return e) = test (statement (return e)) || maybe_expr_any test e
  stmt_any test (throw e) = test (statement (throw e)) || expr_any test false e
  stmt_any test (try b c l) = test (statement (try b c l)) || (stmts_any test b || (catch_any test c || maybe_stmts_any test l))
  stmt_any test (switch e cs) = test (statement (switch e cs)) || (expr_any test false e || cases_any test cs)

  pub stmts_any : (Node → Bool) → tree.Stmts → Bool
  stmts_any test no_stmts = false
  stmts_any test (then_stmt s ss) = stmt_any test s || stmts_any test ss

  pub maybe_stmts_any : (Node → Bool) → tree.MaybeStmts → Bool
  maybe_stmts_any test no_body = false
  maybe_stmts_any test (one_body ss) = stmts_any test ss

  pub declarators_any : (Node → Bool) → tree.Declarators → Bool
  declarators_any test no_declarators = false
  declarators_any test (then_declarator x e ds) = maybe_expr_any test e || declarators_any test ds

  pub init_any : (Node → Bool) → tree.ForInit → Bool
  init_any test no_init = false
  init_any test (init_var ds) = declarators_any test ds
  init_any test (init_expr e) = expr_any test false e

  pub catch_any : (Node → Bool) → tree.MaybeCatch → Bool
  catch_any test no_catch = false
  catch_any test (one_catch x ss) = test (clause x ss) || stmts_any test ss

  pub cases_any : (Node → Bool) → tree.Cases → Bool
  cases_any test no_cases = false
  cases_any test (then_case e ss cs) = maybe_expr_any test e || (stmts_any test ss || cases_any test cs)
