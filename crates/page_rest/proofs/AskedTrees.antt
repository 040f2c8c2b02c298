-- In a script of a form page that some tokens have, each function is asked so.
use Rattle.std.proofs.Common.{◌≡◌, refl, Bool, true, false, not, ◌&&◌, ◌||◌, None}
use Rattle.std.proofs.lemmas.Bool.{or_from, or_parts}
use Rattle.js_core.specs.Tree as tree
use Rattle.js_core.specs.Tree.{name, num, text, bool, null, this, list, literal, func, member, index, call, construct, unary, update, binary, logical_and, logical_or, conditional, assign, comma, no_exprs, then_expr, no_expr, one_expr, no_holes, then_hole, no_fields, then_field, code, var, function, expr, empty, block, if_else, do_while, while, for, for_in, continue, break, return, throw, try, switch, no_stmts, then_stmt, no_body, one_body, no_declarators, then_declarator, no_init, init_var, init_expr, no_catch, one_catch, no_cases, then_case}
use Rattle.js_grammar.specs.Syntax.{AreCases, AreDeclarators, AreExprs, AreFields, AreHoles, AreStmts, IsCode, IsExpr, IsInit, IsMaybeBody, IsMaybeCatch, IsMaybeExpr, IsStmt}
use Rattle.scope_analysis.specs.Nodes.{cases_any, catch_any, code_any, declarators_any, expr_any, exprs_any, fields_any, holes_any, init_any, maybe_expr_any, maybe_stmts_any, stmt_any, stmts_any}
use Rattle.page_rest.proofs.Formed.{functions_are_formed}
use Rattle.page_rest.proofs.Trees.{code_keeps}
use Rattle.page_rest.specs.Asks.{FunctionsAreAsked, is_not_asked, is_unformed}
use Rattle.page_rest.specs.Trees.{keeps_code}

is_asked_if : (keeps formed : Bool) → keeps ≡ true → not formed ≡ false → not (keeps && formed) ≡ false
is_asked_if true formed e f = f
is_asked_if false formed e f = absurd (cc e)

mutual
  expr_asked : (b : Bool) (t : tree.Expr) → IsExpr t → expr_any is_unformed b t ≡ false → expr_any is_not_asked b t ≡ false
  expr_asked b (name w) h e = refl
  expr_asked b (num n) h e = refl
  expr_asked b (text x) h e = refl
  expr_asked b (bool c) h e = refl
  expr_asked b null h e = refl
  expr_asked b this h e = refl
  expr_asked b (list es) h e = holes_asked es h e
  expr_asked b (literal fs) h e = fields_asked fs h e
  expr_asked b (func c) h e = or_from _ _ (is_asked_if _ _ (code_keeps c h) (or_parts _ _ e).0) (code_asked c h (or_parts _ _ e).1)
  expr_asked b (member a w) h e = expr_asked false a h.0 e
  expr_asked b (index a d) h e = or_from _ _ (expr_asked false a h.0 (or_parts _ _ e).0) (expr_asked false d h.1 (or_parts _ _ e).1)
  expr_asked b (call f es) h e = or_from _ _ (expr_asked true f h.0 (or_parts _ _ e).0) (exprs_asked es h.1 (or_parts _ _ e).1)
  expr_asked b (construct f es) h e = or_from _ _ (expr_asked false f h.0 (or_parts _ _ e).0) (exprs_asked es h.1 (or_parts _ _ e).1)
  expr_asked b (unary f a) h e = expr_asked false a h e
  expr_asked b (update up prefix a) h e = expr_asked false a h e
  expr_asked b (binary f a d) h e = or_from _ _ (expr_asked false a h.0 (or_parts _ _ e).0) (expr_asked false d h.1 (or_parts _ _ e).1)
  expr_asked b (logical_and a d) h e = or_from _ _ (expr_asked false a h.0 (or_parts _ _ e).0) (expr_asked false d h.1 (or_parts _ _ e).1)
  expr_asked b (logical_or a d) h e = or_from _ _ (expr_asked false a h.0 (or_parts _ _ e).0) (expr_asked false d h.1 (or_parts _ _ e).1)
  expr_asked b (conditional a d c) h e =
      or_from _ _ (expr_asked false a h.0 (or_parts _ _ e).0)
      (or_from _ _ (expr_asked false d h.1 (or_parts _ _ (or_parts _ _ e).1).0) (expr_asked false c h.2 (or_parts _ _ (or_parts _ _ e).1).1))
  expr_asked b (assign f a d) h e = or_from _ _ (expr_asked false a h.1 (or_parts _ _ e).0) (expr_asked false d h.2 (or_parts _ _ e).1)
  expr_asked b (comma es) h e = exprs_asked es h.1 e

  exprs_asked : (t : tree.Exprs) → AreExprs t → exprs_any is_unformed t ≡ false → exprs_any is_not_asked t ≡ false
  exprs_asked no_exprs h e = refl
  exprs_asked (then_expr a es) h e = or_from _ _ (expr_asked false a h.0 (or_parts _ _ e).0) (exprs_asked es h.1 (or_parts _ _ e).1)

  maybe_asked : (t : tree.MaybeExpr) → IsMaybeExpr t → maybe_expr_any is_unformed t ≡ false → maybe_expr_any is_not_asked t ≡ false
  maybe_asked no_expr h e = refl
  maybe_asked (one_expr a) h e = expr_asked false a h e

  holes_asked : (t : tree.Holes) → AreHoles t → holes_any is_unformed t ≡ false → holes_any is_not_asked t ≡ false
  holes_asked no_holes h e = refl
  holes_asked (then_hole e es) h g = or_from _ _ (maybe_asked e h.0 (or_parts _ _ g).0) (holes_asked es h.1 (or_parts _ _ g).1)

  fields_asked : (t : tree.Fields) → AreFields t → fields_any is_unformed t ≡ false → fields_any is_not_asked t ≡ false
  fields_asked no_fields h e = refl
  fields_asked (then_field w a fs) h e = or_from _ _ (expr_asked false a h.1 (or_parts _ _ e).0) (fields_asked fs h.2 (or_parts _ _ e).1)

  code_asked : (t : tree.Code) → IsCode t → code_any is_unformed t ≡ false → code_any is_not_asked t ≡ false
  code_asked (code own formals ss) h e = stmts_asked true ss h.2 e

  stmt_asked : (top : Bool) (t : tree.Stmt) → IsStmt top t → stmt_any is_unformed t ≡ false → stmt_any is_not_asked t ≡ false
  stmt_asked top (var ds) h e = declarators_asked ds h.1 e
  stmt_asked top (function (code x formals body)) h e =
      let keeps : keeps_code (code None formals body) ≡ true = code_keeps (code None formals body) (refl, h.1.1, h.1.2) in
      or_from _ _ (is_asked_if _ _ keeps (or_parts _ _ e).0) (stmts_asked true body h.1.2 (or_parts _ _ e).1)
  stmt_asked top (expr a) h e = expr_asked false a h e
  stmt_asked top empty h e = refl
  stmt_asked top (block ss) h e = stmts_asked false ss h e
  stmt_asked top (if_else a ss b) h e =
      or_from _ _ (expr_asked false a h.0 (or_parts _ _ e).0)
      (or_from _ _ (stmts_asked false ss h.1 (or_parts _ _ (or_parts _ _ e).1).0) (body_asked b h.2 (or_parts _ _ (or_parts _ _ e).1).1))
  stmt_asked top (do_while ss a) h e = or_from _ _ (stmts_asked false ss h.0 (or_parts _ _ e).0) (expr_asked false a h.1 (or_parts _ _ e).1)
  stmt_asked top (while a ss) h e = or_from _ _ (expr_asked false a h.0 (or_parts _ _ e).0) (stmts_asked false ss h.1 (or_parts _ _ e).1)
  stmt_asked top (for i u s ss) h e =
      let later : Bool = maybe_expr_any is_unformed s || stmts_any is_unformed ss in
      let f = (or_parts (init_any is_unformed i) (maybe_expr_any is_unformed u || later) e).1 in
      let g = (or_parts (maybe_expr_any is_unformed u) later f).1 in
      or_from _ _ (init_asked i h.0 (or_parts _ _ e).0)
      (or_from _ _ (maybe_asked u h.1 (or_parts _ _ f).0)
      (or_from _ _ (maybe_asked s h.2 (or_parts _ _ g).0) (stmts_asked false ss h.3 (or_parts _ _ g).1)))
  stmt_asked top (for_in declared a o ss) h e =
      or_from _ _ (expr_asked false a h.1 (or_parts _ _ e).0)
      (or_from _ _ (expr_asked false o h.2 (or_parts _ _ (or_parts _ _ e).1).0) (stmts_asked false ss h.3 (or_parts _ _ (or_parts _ _ e).1).1))
  stmt_asked top continue h e = refl
  stmt_asked top break h e = refl
  stmt_asked top (return e) h g = maybe_asked e h g
  stmt_asked top (throw a) h e = expr_asked false a h e
  stmt_asked top (try ss c l) h e =
      or_from _ _ (stmts_asked false ss h.1 (or_parts _ _ e).0)
      (or_from _ _ (catch_asked c h.2 (or_parts _ _ (or_parts _ _ e).1).0) (body_asked l h.3 (or_parts _ _ (or_parts _ _ e).1).1))
  stmt_asked top (switch a cs) h e = or_from _ _ (expr_asked false a h.0 (or_parts _ _ e).0) (cases_asked cs h.2 (or_parts _ _ e).1)

  stmts_asked : (top : Bool) (t : tree.Stmts) → AreStmts top t → stmts_any is_unformed t ≡ false → stmts_any is_not_asked t ≡ false
  stmts_asked top no_stmts h e = refl
  stmts_asked top (then_stmt s ss) h e = or_from _ _ (stmt_asked top s h.0 (or_parts _ _ e).0) (stmts_asked top ss h.1 (or_parts _ _ e).1)

  body_asked : (t : tree.MaybeStmts) → IsMaybeBody t → maybe_stmts_any is_unformed t ≡ false → maybe_stmts_any is_not_asked t ≡ false
  body_asked no_body h e = refl
  body_asked (one_body ss) h e = stmts_asked false ss h e

  declarators_asked : (t : tree.Declarators) → AreDeclarators t → declarators_any is_unformed t ≡ false → declarators_any is_not_asked t ≡ false
  declarators_asked no_declarators h e = refl
  declarators_asked (then_declarator w e ds) h g = or_from _ _ (maybe_asked e h.1 (or_parts _ _ g).0) (declarators_asked ds h.2 (or_parts _ _ g).1)

  init_asked : (t : tree.ForInit) → IsInit t → init_any is_unformed t ≡ false → init_any is_not_asked t ≡ false
  init_asked no_init h e = refl
  init_asked (init_var ds) h e = declarators_asked ds h.1 e
  init_asked (init_expr a) h e = expr_asked false a h e

  catch_asked : (t : tree.MaybeCatch) → IsMaybeCatch t → catch_any is_unformed t ≡ false → catch_any is_not_asked t ≡ false
  catch_asked no_catch h e = refl
  catch_asked (one_catch w ss) h e = stmts_asked false ss h.1 e

  cases_asked : (t : tree.Cases) → AreCases t → cases_any is_unformed t ≡ false → cases_any is_not_asked t ≡ false
  cases_asked no_cases h e = refl
  cases_asked (then_case e ss cs) h g =
      or_from _ _ (maybe_asked e h.0 (or_parts _ _ g).0)
      (or_from _ _ (stmts_asked false ss h.1 (or_parts _ _ (or_parts _ _ g).1).0) (cases_asked cs h.2 (or_parts _ _ (or_parts _ _ g).1).1))

pub functions_are_asked : FunctionsAreAsked
functions_are_asked script is syntax = stmts_asked true script syntax (functions_are_formed script is)
