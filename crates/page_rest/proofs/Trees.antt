-- A tree keeps the rules on trees exactly where it is one that some tokens have.
use Rattle.std.proofs.Common.{◌≡◌, refl, Bool, true, false, ◌&&◌}
use Rattle.std.proofs.lemmas.Bool.{and_from, and_parts}
use Rattle.js_core.specs.Tree as tree
use Rattle.js_core.specs.Tree.{name, num, text, bool, null, this, list, literal, func, member, index, call, construct, unary, update, binary, logical_and, logical_or, conditional, assign, comma, no_exprs, then_expr, no_expr, one_expr, no_holes, then_hole, no_fields, then_field, code, var, function, expr, empty, block, if_else, do_while, while, for, for_in, continue, break, return, throw, try, switch, no_stmts, then_stmt, no_body, one_body, no_declarators, then_declarator, no_init, init_var, init_expr, no_catch, one_catch, no_cases, then_case}
use Rattle.js_grammar.specs.Syntax.{AreCases, AreDeclarators, AreExprs, AreFields, AreHoles, AreStmts, IsCode, IsExpr, IsInit, IsMaybeBody, IsMaybeCatch, IsMaybeExpr, IsStmt, is_named}
use Rattle.page_rest.specs.Trees.{keep_cases, keep_declarators, keep_exprs, keep_fields, keep_holes, keep_stmts, keeps_body, keeps_catch, keeps_code, keeps_expr, keeps_init, keeps_maybe, keeps_stmt}

-- ---- from the grammar's rules to the tests

mutual
  pub expr_keeps : (t : tree.Expr) → IsExpr t → keeps_expr t ≡ true
  expr_keeps (name w) h = h
  expr_keeps (num n) h = h
  expr_keeps (text x) h = h
  expr_keeps (bool c) h = refl
  expr_keeps null h = refl
  expr_keeps this h = refl
  expr_keeps (list es) h = holes_keeps es h
  expr_keeps (literal fs) h = fields_keeps fs h
  expr_keeps (func c) h = code_keeps c h
  expr_keeps (member a w) h = and_from _ _ (expr_keeps a h.0) h.1
  expr_keeps (index a b) h = and_from _ _ (expr_keeps a h.0) (expr_keeps b h.1)
  expr_keeps (call f es) h = and_from _ _ (expr_keeps f h.0) (exprs_keeps es h.1)
  expr_keeps (construct f es) h = and_from _ _ (expr_keeps f h.0) (exprs_keeps es h.1)
  expr_keeps (unary f a) h = expr_keeps a h
  expr_keeps (update up prefix a) h = expr_keeps a h
  expr_keeps (binary f a b) h = and_from _ _ (expr_keeps a h.0) (expr_keeps b h.1)
  expr_keeps (logical_and a b) h = and_from _ _ (expr_keeps a h.0) (expr_keeps b h.1)
  expr_keeps (logical_or a b) h = and_from _ _ (expr_keeps a h.0) (expr_keeps b h.1)
  expr_keeps (conditional a b c) h = and_from _ _ (expr_keeps a h.0) (and_from _ _ (expr_keeps b h.1) (expr_keeps c h.2))
  expr_keeps (assign f a b) h = and_from _ _ h.0 (and_from _ _ (expr_keeps a h.1) (expr_keeps b h.2))
  expr_keeps (comma es) h = and_from _ _ h.0 (exprs_keeps es h.1)

  pub exprs_keeps : (t : tree.Exprs) → AreExprs t → keep_exprs t ≡ true
  exprs_keeps no_exprs h = refl
  exprs_keeps (then_expr a es) h = and_from _ _ (expr_keeps a h.0) (exprs_keeps es h.1)

  pub maybe_keeps : (t : tree.MaybeExpr) → IsMaybeExpr t → keeps_maybe t ≡ true
  maybe_keeps no_expr h = refl
  maybe_keeps (one_expr a) h = expr_keeps a h

  pub holes_keeps : (t : tree.Holes) → AreHoles t → keep_holes t ≡ true
  holes_keeps no_holes h = refl
  holes_keeps (then_hole e es) h = and_from _ _ (maybe_keeps e h.0) (holes_keeps es h.1)

  pub fields_keeps : (t : tree.Fields) → AreFields t → keep_fields t ≡ true
  fields_keeps no_fields h = refl
  fields_keeps (then_field w a fs) h = and_from _ _ h.0 (and_from _ _ (expr_keeps a h.1) (fields_keeps fs h.2))

  pub code_keeps : (t : tree.Code) → IsCode t → keeps_code t ≡ true
  code_keeps (code own formals ss) h = and_from _ _ h.0 (and_from _ _ h.1 (stmts_keeps true ss h.2))

  pub stmt_keeps : (top : Bool) (t : tree.Stmt) → IsStmt top t → keeps_stmt top t ≡ true
  stmt_keeps top (var ds) h = and_from _ _ h.0 (declarators_keeps ds h.1)
  stmt_keeps top (function c) h = and_from _ _ h.0 (code_keeps c h.1)
  stmt_keeps top (expr a) h = expr_keeps a h
  stmt_keeps top empty h = refl
  stmt_keeps top (block ss) h = stmts_keeps false ss h
  stmt_keeps top (if_else a ss b) h = and_from _ _ (expr_keeps a h.0) (and_from _ _ (stmts_keeps false ss h.1) (body_keeps b h.2))
  stmt_keeps top (do_while ss a) h = and_from _ _ (stmts_keeps false ss h.0) (expr_keeps a h.1)
  stmt_keeps top (while a ss) h = and_from _ _ (expr_keeps a h.0) (stmts_keeps false ss h.1)
  stmt_keeps top (for i u s ss) h =
      and_from _ _ (init_keeps i h.0)
      (and_from _ _ (maybe_keeps u h.1) (and_from _ _ (maybe_keeps s h.2) (stmts_keeps false ss h.3)))
  stmt_keeps top (for_in declared a o ss) h =
      and_from _ _ h.0
      (and_from _ _ (expr_keeps a h.1) (and_from _ _ (expr_keeps o h.2) (stmts_keeps false ss h.3)))
  stmt_keeps top continue h = refl
  stmt_keeps top break h = refl
  stmt_keeps top (return e) h = maybe_keeps e h
  stmt_keeps top (throw a) h = expr_keeps a h
  stmt_keeps top (try ss c l) h = and_from _ _ h.0 (and_from _ _ (stmts_keeps false ss h.1) (and_from _ _ (catch_keeps c h.2) (body_keeps l h.3)))
  stmt_keeps top (switch a cs) h = and_from _ _ (expr_keeps a h.0) (and_from _ _ h.1 (cases_keeps cs h.2))

  pub stmts_keeps : (top : Bool) (t : tree.Stmts) → AreStmts top t → keep_stmts top t ≡ true
  stmts_keeps top no_stmts h = refl
  stmts_keeps top (then_stmt s ss) h = and_from _ _ (stmt_keeps top s h.0) (stmts_keeps top ss h.1)

  pub body_keeps : (t : tree.MaybeStmts) → IsMaybeBody t → keeps_body t ≡ true
  body_keeps no_body h = refl
  body_keeps (one_body ss) h = stmts_keeps false ss h

  pub declarators_keeps : (t : tree.Declarators) → AreDeclarators t → keep_declarators t ≡ true
  declarators_keeps no_declarators h = refl
  declarators_keeps (then_declarator w e ds) h = and_from _ _ h.0 (and_from _ _ (maybe_keeps e h.1) (declarators_keeps ds h.2))

  pub init_keeps : (t : tree.ForInit) → IsInit t → keeps_init t ≡ true
  init_keeps no_init h = refl
  init_keeps (init_var ds) h = and_from _ _ h.0 (declarators_keeps ds h.1)
  init_keeps (init_expr a) h = expr_keeps a h

  pub catch_keeps : (t : tree.MaybeCatch) → IsMaybeCatch t → keeps_catch t ≡ true
  catch_keeps no_catch h = refl
  catch_keeps (one_catch w ss) h = and_from _ _ h.0 (stmts_keeps false ss h.1)

  pub cases_keeps : (t : tree.Cases) → AreCases t → keep_cases t ≡ true
  cases_keeps no_cases h = refl
  cases_keeps (then_case e ss cs) h = and_from _ _ (maybe_keeps e h.0) (and_from _ _ (stmts_keeps false ss h.1) (cases_keeps cs h.2))

-- ---- from the tests to the grammar's rules

mutual
  pub expr_is : (t : tree.Expr) → keeps_expr t ≡ true → IsExpr t
  expr_is (name w) h = h
  expr_is (num n) h = h
  expr_is (text x) h = h
  expr_is (bool c) h = tt
  expr_is null h = tt
  expr_is this h = tt
  expr_is (list es) h = holes_is es h
  expr_is (literal fs) h = fields_is fs h
  expr_is (func c) h = code_is c h
  expr_is (member a w) h = (expr_is a (and_parts _ _ h).0, (and_parts _ _ h).1)
  expr_is (index a b) h = (expr_is a (and_parts _ _ h).0, expr_is b (and_parts _ _ h).1)
  expr_is (call f es) h = (expr_is f (and_parts _ _ h).0, exprs_is es (and_parts _ _ h).1)
  expr_is (construct f es) h = (expr_is f (and_parts _ _ h).0, exprs_is es (and_parts _ _ h).1)
  expr_is (unary f a) h = expr_is a h
  expr_is (update up prefix a) h = expr_is a h
  expr_is (binary f a b) h = (expr_is a (and_parts _ _ h).0, expr_is b (and_parts _ _ h).1)
  expr_is (logical_and a b) h = (expr_is a (and_parts _ _ h).0, expr_is b (and_parts _ _ h).1)
  expr_is (logical_or a b) h = (expr_is a (and_parts _ _ h).0, expr_is b (and_parts _ _ h).1)
  expr_is (conditional a b c) h = (
    expr_is a (and_parts _ _ h).0,
    expr_is b (and_parts _ _ (and_parts _ _ h).1).0,
    expr_is c (and_parts _ _ (and_parts _ _ h).1).1,
  )
  expr_is (assign f a b) h = ((and_parts _ _ h).0, expr_is a (and_parts _ _ (and_parts _ _ h).1).0, expr_is b (and_parts _ _ (and_parts _ _ h).1).1)
  expr_is (comma es) h = ((and_parts _ _ h).0, exprs_is es (and_parts _ _ h).1)

  pub exprs_is : (t : tree.Exprs) → keep_exprs t ≡ true → AreExprs t
  exprs_is no_exprs h = tt
  exprs_is (then_expr a es) h = (expr_is a (and_parts _ _ h).0, exprs_is es (and_parts _ _ h).1)

  pub maybe_is : (t : tree.MaybeExpr) → keeps_maybe t ≡ true → IsMaybeExpr t
  maybe_is no_expr h = tt
  maybe_is (one_expr a) h = expr_is a h

  pub holes_is : (t : tree.Holes) → keep_holes t ≡ true → AreHoles t
  holes_is no_holes h = tt
  holes_is (then_hole e es) h = (maybe_is e (and_parts _ _ h).0, holes_is es (and_parts _ _ h).1)

  pub fields_is : (t : tree.Fields) → keep_fields t ≡ true → AreFields t
  fields_is no_fields h = tt
  fields_is (then_field w a fs) h = (
    (and_parts _ _ h).0,
    expr_is a (and_parts _ _ (and_parts _ _ h).1).0,
    fields_is fs (and_parts _ _ (and_parts _ _ h).1).1,
  )

  pub code_is : (t : tree.Code) → keeps_code t ≡ true → IsCode t
  code_is (code own formals ss) h = (
    (and_parts _ _ h).0,
    (and_parts _ _ (and_parts _ _ h).1).0,
    stmts_is true ss (and_parts _ _ (and_parts _ _ h).1).1,
  )

  pub stmt_is : (top : Bool) (t : tree.Stmt) → keeps_stmt top t ≡ true → IsStmt top t
  stmt_is top (var ds) h = ((and_parts _ _ h).0, declarators_is ds (and_parts _ _ h).1)
  stmt_is top (function c) h = ((and_parts (top && is_named c) (keeps_code c) h).0, code_is c (and_parts (top && is_named c) (keeps_code c) h).1)
  stmt_is top (expr a) h = expr_is a h
  stmt_is top empty h = tt
  stmt_is top (block ss) h = stmts_is false ss h
  stmt_is top (if_else a ss b) h = (
    expr_is a (and_parts _ _ h).0,
    stmts_is false ss (and_parts _ _ (and_parts _ _ h).1).0,
    body_is b (and_parts _ _ (and_parts _ _ h).1).1,
  )
  stmt_is top (do_while ss a) h = (stmts_is false ss (and_parts _ _ h).0, expr_is a (and_parts _ _ h).1)
  stmt_is top (while a ss) h = (expr_is a (and_parts _ _ h).0, stmts_is false ss (and_parts _ _ h).1)
  stmt_is top (for i u s ss) h =
      let g = (and_parts _ _ h).1 in
      let f = (and_parts _ _ g).1 in
      (init_is i (and_parts _ _ h).0, maybe_is u (and_parts _ _ g).0, maybe_is s (and_parts _ _ f).0, stmts_is false ss (and_parts _ _ f).1)
  stmt_is top (for_in declared a o ss) h =
      let g = (and_parts _ _ h).1 in
      let f = (and_parts _ _ g).1 in
      ((and_parts _ _ h).0, expr_is a (and_parts _ _ g).0, expr_is o (and_parts _ _ f).0, stmts_is false ss (and_parts _ _ f).1)
  stmt_is top continue h = tt
  stmt_is top break h = tt
  stmt_is top (return e) h = maybe_is e h
  stmt_is top (throw a) h = expr_is a h
  stmt_is top (try ss c l) h =
      let g = (and_parts _ _ h).1 in
      let f = (and_parts _ _ g).1 in
      ((and_parts _ _ h).0, stmts_is false ss (and_parts _ _ g).0, catch_is c (and_parts _ _ f).0, body_is l (and_parts _ _ f).1)
  stmt_is top (switch a cs) h = (
    expr_is a (and_parts _ _ h).0,
    (and_parts _ _ (and_parts _ _ h).1).0,
    cases_is cs (and_parts _ _ (and_parts _ _ h).1).1,
  )

  pub stmts_is : (top : Bool) (t : tree.Stmts) → keep_stmts top t ≡ true → AreStmts top t
  stmts_is top no_stmts h = tt
  stmts_is top (then_stmt s ss) h = (stmt_is top s (and_parts _ _ h).0, stmts_is top ss (and_parts _ _ h).1)

  pub body_is : (t : tree.MaybeStmts) → keeps_body t ≡ true → IsMaybeBody t
  body_is no_body h = tt
  body_is (one_body ss) h = stmts_is false ss h

  pub declarators_is : (t : tree.Declarators) → keep_declarators t ≡ true → AreDeclarators t
  declarators_is no_declarators h = tt
  declarators_is (then_declarator w e ds) h = (
    (and_parts _ _ h).0,
    maybe_is e (and_parts _ _ (and_parts _ _ h).1).0,
    declarators_is ds (and_parts _ _ (and_parts _ _ h).1).1,
  )

  pub init_is : (t : tree.ForInit) → keeps_init t ≡ true → IsInit t
  init_is no_init h = tt
  init_is (init_var ds) h = ((and_parts _ _ h).0, declarators_is ds (and_parts _ _ h).1)
  init_is (init_expr a) h = expr_is a h

  pub catch_is : (t : tree.MaybeCatch) → keeps_catch t ≡ true → IsMaybeCatch t
  catch_is no_catch h = tt
  catch_is (one_catch w ss) h = ((and_parts _ _ h).0, stmts_is false ss (and_parts _ _ h).1)

  pub cases_is : (t : tree.Cases) → keep_cases t ≡ true → AreCases t
  cases_is no_cases h = tt
  cases_is (then_case e ss cs) h = (
    maybe_is e (and_parts _ _ h).0,
    stmts_is false ss (and_parts _ _ (and_parts _ _ h).1).0,
    cases_is cs (and_parts _ _ (and_parts _ _ h).1).1,
  )
