-- A piece without function declarations fits in frames where each of its uses is reached.
use Rattle.std.proofs.Common.{◌≡◌, refl, ℕ, Bool, true, false, true≢false, List}
use Rattle.std.proofs.lemmas.Bool.{and_from}
use Rattle.js_core.specs.Tree as tree
use Rattle.js_core.specs.Tree.{name, num, text, bool, null, this, list, literal, func, member, index, call, construct, unary, update, binary, logical_and, logical_or, conditional, assign, comma, no_exprs, then_expr, no_expr, one_expr, no_holes, then_hole, no_fields, then_field, code, var, function, expr, empty, block, if_else, do_while, while, for, for_in, continue, break, return, throw, try, switch, no_stmts, then_stmt, no_body, one_body, no_declarators, then_declarator, no_init, init_var, init_expr, no_catch, one_catch, no_cases, then_case}
use Rattle.early_rules.specs.FormNodes.{is_declaration}
use Rattle.scope_analysis.specs.Nodes.{cases_any, catch_any, declarators_any, expr_any, exprs_any, fields_any, holes_any, init_any, maybe_expr_any, maybe_stmts_any, stmt_any, stmts_any}
use Rattle.scope_analysis.specs.Uses.{cases_uses, catch_uses, declarator_uses, declarators_uses, expr_uses, exprs_uses, fields_uses, holes_uses, init_uses, maybe_expr_uses, maybe_stmts_uses, stmt_uses, stmts_uses, target_uses}
use Rattle.heap_relations.specs.Naming.{Frame}
use Rattle.agreement.specs.Trees.{cases_fit, catch_fits, declarator_fits, declarators_fit, expr_fits, exprs_fit, fields_fit, holes_fit, init_fits, maybe_body_fits, maybe_fits, stmt_fits, stmts_fit, target_fits}
use Rattle.rebuilding.proofs.Uses.{Apt, inside_clause, inside_function, left, one, rest, right}

target_stands : {fs : List Frame} (e : tree.Expr) (declares : Bool) → (Apt fs (expr_uses e) declares → expr_fits fs e ≡ true)
    → Apt fs (target_uses e (expr_uses e)) declares → target_fits fs e (expr_fits fs e) ≡ true
target_stands (name x) declares f h = one h
target_stands e declares f h = f h

mutual
  pub expr_stands : {fs : List Frame} (callee : Bool) (e : tree.Expr) → Apt fs (expr_uses e) (expr_any is_declaration callee e)
      → expr_fits fs e ≡ true
  expr_stands callee (name x) h = one h
  expr_stands callee (num n) h = refl
  expr_stands callee (text x) h = refl
  expr_stands callee (bool b) h = refl
  expr_stands callee null h = refl
  expr_stands callee this h = refl
  expr_stands callee (list es) h = holes_stand es h
  expr_stands callee (literal es) h = fields_stand es h
  expr_stands {fs = fs} callee (func (code x formals body)) h =
      stmts_stand body (inside_function x formals body h)
  expr_stands callee (member e x) h = expr_stands false e h
  expr_stands callee (index a b) h = and_from _ _ (expr_stands false a (left _ _ h)) (expr_stands false b (right _ _ h))
  expr_stands callee (call e es) h = and_from _ _ (expr_stands true e (left _ _ h)) (exprs_stand es (right _ _ h))
  expr_stands callee (construct e es) h = and_from _ _ (expr_stands false e (left _ _ h)) (exprs_stand es (right _ _ h))
  expr_stands callee (unary op a) h = expr_stands false a h
  expr_stands callee (update up prefix a) h = target_stands a (expr_any is_declaration false a) (λ k. expr_stands false a k) h
  expr_stands callee (binary op a b) h =
      and_from _ _ (expr_stands false a (left _ _ h)) (expr_stands false b (right _ _ h))
  expr_stands callee (logical_and a b) h =
      and_from _ _ (expr_stands false a (left _ _ h)) (expr_stands false b (right _ _ h))
  expr_stands callee (logical_or a b) h =
      and_from _ _ (expr_stands false a (left _ _ h)) (expr_stands false b (right _ _ h))
  expr_stands callee (conditional a b c) h =
      and_from _ _ (expr_stands false a (left _ _ h))
      (and_from _ _ (expr_stands false b (left _ _ (right _ _ h))) (expr_stands false c (right _ _ (right _ _ h))))
  expr_stands callee (assign op a b) h =
      and_from _ _ (target_stands a (expr_any is_declaration false a) (λ k. expr_stands false a k) (left _ _ h))
      (expr_stands false b (right _ _ h))
  expr_stands callee (comma es) h = exprs_stand es h

  pub exprs_stand : {fs : List Frame} (es : tree.Exprs) → Apt fs (exprs_uses es) (exprs_any is_declaration es)
      → exprs_fit fs es ≡ true
  exprs_stand no_exprs h = refl
  exprs_stand (then_expr e es) h = and_from _ _ (expr_stands false e (left _ _ h)) (exprs_stand es (right _ _ h))

  pub maybe_stands : {fs : List Frame} (e : tree.MaybeExpr) → Apt fs (maybe_expr_uses e) (maybe_expr_any is_declaration e)
      → maybe_fits fs e ≡ true
  maybe_stands no_expr h = refl
  maybe_stands (one_expr e) h = expr_stands false e h

  pub holes_stand : {fs : List Frame} (es : tree.Holes) → Apt fs (holes_uses es) (holes_any is_declaration es)
      → holes_fit fs es ≡ true
  holes_stand no_holes h = refl
  holes_stand (then_hole e es) h = and_from _ _ (maybe_stands e (left _ _ h)) (holes_stand es (right _ _ h))

  pub fields_stand : {fs : List Frame} (es : tree.Fields) → Apt fs (fields_uses es) (fields_any is_declaration es)
      → fields_fit fs es ≡ true
  fields_stand no_fields h = refl
  fields_stand (then_field x e es) h = and_from _ _ (expr_stands false e (left _ _ h)) (fields_stand es (right _ _ h))

  pub stmt_stands : {fs : List Frame} (s : tree.Stmt) → Apt fs (stmt_uses s) (stmt_any is_declaration s)
      → stmt_fits fs s ≡ true
  stmt_stands (var ds) h = declarators_stand ds h
  stmt_stands (function c) h = absurd (true≢false h.plain)
  stmt_stands (expr e) h = expr_stands false e h
  stmt_stands empty h = refl
  stmt_stands (block ss) h = stmts_stand ss h
  stmt_stands (if_else e a b) h =
      and_from _ _ (expr_stands false e (left _ _ h))
      (and_from _ _ (stmts_stand a (left _ _ (right _ _ h))) (maybe_body_stands b (right _ _ (right _ _ h))))
  stmt_stands (do_while body e) h = and_from _ _ (stmts_stand body (left _ _ h)) (expr_stands false e (right _ _ h))
  stmt_stands (while e body) h = and_from _ _ (expr_stands false e (left _ _ h)) (stmts_stand body (right _ _ h))
  stmt_stands (for i t s body) h =
      let k = right (init_uses i) (init_any is_declaration i) h in
      let m = right (maybe_expr_uses t) (maybe_expr_any is_declaration t) k in
      and_from _ _ (init_stands i (left _ _ h))
      (and_from _ _ (maybe_stands t (left _ _ k))
      (and_from _ _ (maybe_stands s (left _ _ m)) (stmts_stand body (right _ _ m))))
  stmt_stands (for_in declared t e body) h =
      and_from _ _ (target_stands t (expr_any is_declaration false t) (λ k. expr_stands false t k) (left _ _ h))
      (and_from _ _ (expr_stands false e (left _ _ (right _ _ h))) (stmts_stand body (right _ _ (right _ _ h))))
  stmt_stands continue h = refl
  stmt_stands break h = refl
  stmt_stands (return e) h = maybe_stands e h
  stmt_stands (throw e) h = expr_stands false e h
  stmt_stands (try b c e) h =
      and_from _ _ (stmts_stand b (left _ _ h))
      (and_from _ _ (catch_stands c (left _ _ (right _ _ h))) (maybe_body_stands e (right _ _ (right _ _ h))))
  stmt_stands (switch e cs) h = and_from _ _ (expr_stands false e (left _ _ h)) (cases_stand cs (right _ _ h))

  pub stmts_stand : {fs : List Frame} (ss : tree.Stmts) → Apt fs (stmts_uses ss) (stmts_any is_declaration ss)
      → stmts_fit fs ss ≡ true
  stmts_stand no_stmts h = refl
  stmts_stand (then_stmt s ss) h = and_from _ _ (stmt_stands s (left _ _ h)) (stmts_stand ss (right _ _ h))

  pub maybe_body_stands : {fs : List Frame} (ss : tree.MaybeStmts) → Apt fs (maybe_stmts_uses ss) (maybe_stmts_any is_declaration ss)
      → maybe_body_fits fs ss ≡ true
  maybe_body_stands no_body h = refl
  maybe_body_stands (one_body ss) h = stmts_stand ss h

  pub declarators_stand : {fs : List Frame} (ds : tree.Declarators) → Apt fs (declarators_uses ds) (declarators_any is_declaration ds)
      → declarators_fit fs ds ≡ true
  declarators_stand no_declarators h = refl
  declarators_stand (then_declarator x e ds) h =
      and_from _ _ (declarator_stands x e (left _ _ h)) (declarators_stand ds (right _ _ h))

  -- without an initialiser it is no use, and fits always
  pub declarator_stands : {fs : List Frame} (x : List ℕ) (e : tree.MaybeExpr) → Apt fs (declarator_uses x e) (maybe_expr_any is_declaration e)
      → declarator_fits fs x e ≡ true
  declarator_stands x no_expr h = refl
  declarator_stands x (one_expr e) h = and_from _ _ (one h) (expr_stands false e (rest h))

  pub init_stands : {fs : List Frame} (i : tree.ForInit) → Apt fs (init_uses i) (init_any is_declaration i)
      → init_fits fs i ≡ true
  init_stands no_init h = refl
  init_stands (init_var ds) h = declarators_stand ds h
  init_stands (init_expr e) h = expr_stands false e h

  -- a catch clause is a frame more, and adds nothing to the height
  pub catch_stands : {fs : List Frame} (c : tree.MaybeCatch) → Apt fs (catch_uses c) (catch_any is_declaration c)
      → catch_fits fs c ≡ true
  catch_stands no_catch h = refl
  catch_stands (one_catch x ss) h = stmts_stand ss (inside_clause x ss h)

  pub cases_stand : {fs : List Frame} (cs : tree.Cases) → Apt fs (cases_uses cs) (cases_any is_declaration cs)
      → cases_fit fs cs ≡ true
  cases_stand no_cases h = refl
  cases_stand (then_case e ss cs) h =
      and_from _ _ (maybe_stands e (left _ _ h))
      (and_from _ _ (stmts_stand ss (left _ _ (right _ _ h))) (cases_stand cs (right _ _ (right _ _ h))))
