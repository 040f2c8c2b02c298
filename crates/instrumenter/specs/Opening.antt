-- Scripts with opened scopes: the variables that functions inside capture stand in objects, so that a saved page can rebuild what
-- functions share. n is the number of the next scope's object.
use Rattle.std.specs.Prelude.{ℕ, ◌+◌, true, ◌&&◌, not, List, [], ◌∷◌, Option, None, if◌then◌else◌}
use Rattle.js_core.specs.Tree as tree
use Rattle.js_core.specs.Tree.{name, num, text, bool, null, this, list, literal, func, member, index, call, construct, unary, update, binary, logical_and, logical_or, conditional, assign, comma, no_exprs, then_expr, no_expr, one_expr, no_holes, then_hole, no_fields, then_field, code, var, function, expr, empty, block, if_else, do_while, while, for, for_in, continue, break, return, throw, try, switch, no_stmts, then_stmt, no_body, one_body, no_declarators, then_declarator, no_init, init_var, init_expr, no_catch, one_catch, no_cases, then_case}
use Rattle.scope_analysis.specs.Names.{own_name}
use Rattle.instrumenter.specs.Around.{Around, append, before_for, before_for_in, callee, declaration, field_or_name, in_clause, in_function, next_number, opened_body, opened_clause, opened_fields, opened_init, opened_var, scope_object, single, target_is_field, top, valued_names}
use Rattle.instrumenter.specs.Counting.{expr_scopes, init_scopes, maybe_expr_scopes, catch_scopes, stmt_scopes, stmts_scopes}
use Rattle.instrumenter.specs.Fields.{clause_fields, declaration_fields, expression_fields}

abbrev mutual
  -- ---- expressions
  pub open_expr : Around → ℕ → tree.Expr → tree.Expr
  open_expr a n (name x) = field_or_name (a.fields x) x
  open_expr a n (num k) = num k
  open_expr a n (text x) = text x
  open_expr a n (bool b) = bool b
  open_expr a n null = null
  open_expr a n this = this
  open_expr a n (list es) = list (open_holes a n es)
  open_expr a n (literal fs) = literal (open_fields a n fs)
  open_expr a n (func (code x formals body)) =
      func (code x formals (open_function a n (opened_fields a.opens (expression_fields (code x formals body))) (own_name (code x formals body)) (code x formals body)))
  open_expr a n (member e x) = member (open_expr a n e) x
  open_expr a n (index d e) = index (open_expr a n d) (open_expr a (n + expr_scopes d) e)
  open_expr a n (call f es) = call (callee a f (open_expr a n f)) (open_exprs a (n + expr_scopes f) es)
  open_expr a n (construct f es) = construct (open_expr a n f) (open_exprs a (n + expr_scopes f) es)
  open_expr a n (unary op e) = unary op (open_expr a n e)
  open_expr a n (update up prefix e) = update up prefix (open_expr a n e)
  open_expr a n (binary op d e) = binary op (open_expr a n d) (open_expr a (n + expr_scopes d) e)
  open_expr a n (logical_and d e) = logical_and (open_expr a n d) (open_expr a (n + expr_scopes d) e)
  open_expr a n (logical_or d e) = logical_or (open_expr a n d) (open_expr a (n + expr_scopes d) e)
  open_expr a n (conditional d e f) =
      conditional (open_expr a n d) (open_expr a (n + expr_scopes d) e) (open_expr a ((n + expr_scopes d) + expr_scopes e) f)
  open_expr a n (assign op d e) = assign op (open_expr a n d) (open_expr a (n + expr_scopes d) e)
  open_expr a n (comma es) = comma (open_exprs a n es)

  pub open_exprs : Around → ℕ → tree.Exprs → tree.Exprs
  open_exprs a n no_exprs = no_exprs
  open_exprs a n (then_expr e es) = then_expr (open_expr a n e) (open_exprs a (n + expr_scopes e) es)

  pub open_maybe : Around → ℕ → tree.MaybeExpr → tree.MaybeExpr
  open_maybe a n no_expr = no_expr
  open_maybe a n (one_expr e) = one_expr (open_expr a n e)

  pub open_holes : Around → ℕ → tree.Holes → tree.Holes
  open_holes a n no_holes = no_holes
  open_holes a n (then_hole e es) = then_hole (open_maybe a n e) (open_holes a (n + maybe_expr_scopes e) es)

  pub open_fields : Around → ℕ → tree.Fields → tree.Fields
  open_fields a n no_fields = no_fields
  open_fields a n (then_field x e fs) = then_field x (open_expr a n e) (open_fields a (n + expr_scopes e) fs)

  -- ---- functions: the body of one with these fields and this own name. Its declarations stand at its start, as assignments.
  pub open_function : Around → ℕ → List (List ℕ) → Option (List ℕ) → tree.Code → tree.Stmts
  open_function a n fields own (code x formals body) =
      scope_object n (valued_names own (code x formals body)) fields (opened_body a.opens
      (open_declarations (in_function a n fields own (code x formals body)) (next_number fields n) body)
      (open_stmts (in_function a n fields own (code x formals body)) (next_number fields n) body))

  pub open_declarations : Around → ℕ → tree.Stmts → tree.Stmts
  open_declarations a n no_stmts = no_stmts
  open_declarations a n (then_stmt (function (code x formals body)) ss) =
      declaration a x (func (code None formals (open_function a n (opened_fields a.opens (declaration_fields (code x formals body))) None (code x formals body))))
      (open_declarations a (n + stmt_scopes (function (code x formals body))) ss)
  open_declarations a n (then_stmt s ss) = open_declarations a (n + stmt_scopes s) ss

  -- ---- statements; one may become several
  pub open_stmt : Around → ℕ → tree.Stmt → tree.Stmts
  open_stmt a n (var ds) = opened_var a ds (open_declarators a n ds)
  -- it stands at the start of its function
  open_stmt a n (function c) = if a.opens then no_stmts else single (function c)
  open_stmt a n (expr e) = single (expr (open_expr a n e))
  open_stmt a n empty = single empty
  open_stmt a n (block ss) = single (block (open_stmts a n ss))
  open_stmt a n (if_else e s t) =
      single (if_else (open_expr a n e) (open_stmts a (n + expr_scopes e) s) (open_maybe_body a ((n + expr_scopes e) + stmts_scopes s) t))
  open_stmt a n (do_while body e) = single (do_while (open_stmts a n body) (open_expr a (n + stmts_scopes body) e))
  open_stmt a n (while e body) = single (while (open_expr a n e) (open_stmts a (n + expr_scopes e) body))
  open_stmt a n (for i t s body) =
      before_for a i (single (for (open_init a n i) (open_maybe a (n + init_scopes i) t)
      (open_maybe a ((n + init_scopes i) + maybe_expr_scopes t) s)
      (open_stmts a (((n + init_scopes i) + maybe_expr_scopes t) + maybe_expr_scopes s) body)))
  open_stmt a n (for_in declared t e body) =
      before_for_in a declared t (single (for_in (declared && not (target_is_field a t)) (open_expr a n t) (open_expr a (n + expr_scopes t) e)
      (open_stmts a ((n + expr_scopes t) + expr_scopes e) body)))
  open_stmt a n continue = single continue
  open_stmt a n break = single break
  open_stmt a n (return e) = single (return (open_maybe a n e))
  open_stmt a n (throw e) = single (throw (open_expr a n e))
  open_stmt a n (try b c l) =
      single (try (open_stmts a n b) (open_catch a (n + stmts_scopes b) c) (open_maybe_body a ((n + stmts_scopes b) + catch_scopes c) l))
  open_stmt a n (switch e cs) = single (switch (open_expr a n e) (open_cases a (n + expr_scopes e) cs))

  pub open_stmts : Around → ℕ → tree.Stmts → tree.Stmts
  open_stmts a n no_stmts = no_stmts
  open_stmts a n (then_stmt s ss) = append (open_stmt a n s) (open_stmts a (n + stmt_scopes s) ss)

  pub open_maybe_body : Around → ℕ → tree.MaybeStmts → tree.MaybeStmts
  open_maybe_body a n no_body = no_body
  open_maybe_body a n (one_body ss) = one_body (open_stmts a n ss)

  -- the initialisers alone
  pub open_declarators : Around → ℕ → tree.Declarators → tree.Declarators
  open_declarators a n no_declarators = no_declarators
  open_declarators a n (then_declarator x e ds) = then_declarator x (open_maybe a n e) (open_declarators a (n + maybe_expr_scopes e) ds)

  pub open_init : Around → ℕ → tree.ForInit → tree.ForInit
  open_init a n no_init = no_init
  open_init a n (init_var ds) = opened_init a ds (open_declarators a n ds)
  open_init a n (init_expr e) = init_expr (open_expr a n e)

  pub open_catch : Around → ℕ → tree.MaybeCatch → tree.MaybeCatch
  open_catch a n no_catch = no_catch
  open_catch a n (one_catch x ss) =
      opened_clause n (opened_fields a.opens (clause_fields x ss)) x
      (open_stmts (in_clause a n (opened_fields a.opens (clause_fields x ss)) x) (next_number (opened_fields a.opens (clause_fields x ss)) n) ss)

  pub open_cases : Around → ℕ → tree.Cases → tree.Cases
  open_cases a n no_cases = no_cases
  open_cases a n (then_case e ss cs) =
      then_case (open_maybe a n e) (open_stmts a (n + maybe_expr_scopes e) ss) (open_cases a ((n + maybe_expr_scopes e) + stmts_scopes ss) cs)

-- ---- scripts

-- the code of a function
abbrev pub open_code : Around → ℕ → Option (List ℕ) → List (List ℕ) → tree.Code → tree.Code
open_code a n own fields (code x formals body) = code x formals (open_function a n (opened_fields a.opens fields) own (code x formals body))

-- the functions that a script declares at its top stay where they are
abbrev pub open_tops : Around → ℕ → tree.Stmts → tree.Stmts
open_tops a n no_stmts = no_stmts
open_tops a n (then_stmt (function c) ss) =
    then_stmt (function (open_code a n None (declaration_fields c) c)) (open_tops a (n + stmt_scopes (function c)) ss)
open_tops a n (then_stmt s ss) = append (open_stmt a n s) (open_tops a (n + stmt_scopes s) ss)

abbrev pub open_script : ℕ → tree.Stmts → tree.Stmts
open_script n body = open_tops (top true) n body

-- objects are numbered from 1 through all scripts
abbrev pub open_from : ℕ → List tree.Stmts → List tree.Stmts
open_from n [] = []
open_from n (body ∷ bodies) = open_script n body ∷ open_from (n + stmts_scopes body) bodies

abbrev pub open_scripts : List tree.Stmts → List tree.Stmts
open_scripts bodies = open_from 1 bodies
