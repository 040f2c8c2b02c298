-- Each tree fits where the right has all names as they are, as it does at the beginning
-- (sections 10.3 and 10.5).
use Rattle.std.proofs.Common.{◌≡◌, refl, ap, ℕ, Bool, true, false, List, [], ◌∷◌, Option, Some, None, is_some}
use Rattle.std.proofs.lemmas.Bool.{and_from}
use Rattle.js_core.specs.Tree as tree
use Rattle.js_core.specs.Tree.{name, num, text, bool, null, this, list, literal, func, member, index, call, construct, unary, update, binary, logical_and, logical_or, conditional, assign, comma, no_exprs, then_expr, no_expr, one_expr, no_holes, then_hole, no_fields, then_field, code, var, function, expr, empty, block, if_else, do_while, while, for, for_in, continue, break, return, throw, try, switch, no_stmts, then_stmt, no_body, one_body, no_declarators, then_declarator, no_init, init_var, init_expr, no_catch, one_catch, no_cases, then_case}
use Rattle.object_heap.specs.Environment.{value_of}
use Rattle.page_meaning.specs.Functions.{entry_names}
use Rattle.scope_analysis.specs.Names.{is_among}
use Rattle.heap_relations.specs.Naming.{Frame, Itself, Place, resolve, resolved}
use Rattle.agreement.specs.Trees.{cases_fit, catch_fits, declarator_fits, declarators_fit, entry_frame, expr_fits, exprs_fit, fields_fit, frame_of, free_where, holes_fit, init_fits, is_reached, maybe_body_fits, maybe_fits, own_frames, stmt_fits, stmts_fit, target_fits}

-- ---- frames

-- the right has each name as it is
record ArePlain (fs : List Frame) : Type 0 where
  same : (x : List ℕ) → resolve fs x ≡ Itself

no_frames_plain : ArePlain []
no_frames_plain = record { same = λ x. refl }

kept_plain : (b : Bool) (k : ℕ) (p : Place) → p ≡ Itself → resolved (free_where b) k p ≡ Itself
kept_plain true k p e = refl
kept_plain false k p e = e

frame_plain : {fs : List Frame} (xs : List (List ℕ)) → ArePlain fs → ArePlain (frame_of xs ∷ fs)
frame_plain {fs = fs} xs h = record { same = λ x. kept_plain (is_among x xs) 0 (resolve fs x) (h.same x) }

entry_plain : {fs : List Frame} (formals : List (List ℕ)) (body : tree.Stmts) → ArePlain fs → ArePlain (entry_frame formals body ∷ fs)
entry_plain {fs = fs} formals body h =
    record { same = λ x. kept_plain (is_some (value_of (entry_names formals body []) x)) 0 (resolve fs x) (h.same x) }

own_plain : {fs : List Frame} (x : Option (List ℕ)) → ArePlain fs → ArePlain (own_frames x fs)
own_plain None h = h
own_plain (Some x) h = frame_plain (x ∷ []) h

-- ---- names

reached : {fs : List Frame} (assigns : Bool) (x : List ℕ) → ArePlain fs → is_reached assigns (resolve fs x) ≡ true
reached assigns x h = ap (is_reached assigns) (h.same x)

target_plain : {fs : List Frame} (e : tree.Expr) (b : Bool) → ArePlain fs → b ≡ true → target_fits fs e b ≡ true
target_plain (name x) b h f = reached true x h
target_plain e b h f = f

-- ---- trees

mutual
  expr_plain : {fs : List Frame} (t : tree.Expr) → ArePlain fs → expr_fits fs t ≡ true
  expr_plain (name x) h = reached false x h
  expr_plain (num n) h = refl
  expr_plain (text x) h = refl
  expr_plain (bool c) h = refl
  expr_plain null h = refl
  expr_plain this h = refl
  expr_plain (list es) h = holes_plain es h
  expr_plain (literal es) h = fields_plain es h
  expr_plain (func (code x formals body)) h =
      stmts_plain body (entry_plain formals body (own_plain x h))
  expr_plain (member e x) h = expr_plain e h
  expr_plain (index a c) h = and_from _ _ (expr_plain a h) (expr_plain c h)
  expr_plain (call e es) h = and_from _ _ (expr_plain e h) (exprs_plain es h)
  expr_plain (construct e es) h = and_from _ _ (expr_plain e h) (exprs_plain es h)
  expr_plain (unary op a) h = expr_plain a h
  expr_plain (update up prefix a) h = target_plain a _ h (expr_plain a h)
  expr_plain (binary op a c) h =
      and_from _ _ (expr_plain a h)
      (expr_plain c h)
  expr_plain (logical_and a c) h =
      and_from _ _ (expr_plain a h)
      (expr_plain c h)
  expr_plain (logical_or a c) h =
      and_from _ _ (expr_plain a h)
      (expr_plain c h)
  expr_plain (conditional a c d) h =
      and_from _ _ (expr_plain a h)
      (and_from _ _ (expr_plain c h) (expr_plain d h))
  expr_plain (assign op a c) h =
      and_from _ _ (target_plain a _ h (expr_plain a h))
      (expr_plain c h)
  expr_plain (comma es) h = exprs_plain es h

  exprs_plain : {fs : List Frame} (t : tree.Exprs) → ArePlain fs → exprs_fit fs t ≡ true
  exprs_plain no_exprs h = refl
  exprs_plain (then_expr e es) h = and_from _ _ (expr_plain e h) (exprs_plain es h)

  maybe_plain : {fs : List Frame} (t : tree.MaybeExpr) → ArePlain fs → maybe_fits fs t ≡ true
  maybe_plain no_expr h = refl
  maybe_plain (one_expr e) h = expr_plain e h

  holes_plain : {fs : List Frame} (t : tree.Holes) → ArePlain fs → holes_fit fs t ≡ true
  holes_plain no_holes h = refl
  holes_plain (then_hole e es) h = and_from _ _ (maybe_plain e h) (holes_plain es h)

  fields_plain : {fs : List Frame} (t : tree.Fields) → ArePlain fs → fields_fit fs t ≡ true
  fields_plain no_fields h = refl
  fields_plain (then_field x e es) h =
      and_from _ _ (expr_plain e h)
      (fields_plain es h)

  stmt_plain : {fs : List Frame} (t : tree.Stmt) → ArePlain fs → stmt_fits fs t ≡ true
  stmt_plain (var ds) h = declarators_plain ds h
  stmt_plain (function (code x formals body)) h =
      stmts_plain body (entry_plain formals body h)
  stmt_plain (expr e) h = expr_plain e h
  stmt_plain empty h = refl
  stmt_plain (block ss) h = stmts_plain ss h
  stmt_plain (if_else e a c) h =
      and_from _ _ (expr_plain e h)
      (and_from _ _ (stmts_plain a h) (maybe_body_plain c h))
  stmt_plain (do_while body e) h = and_from _ _ (stmts_plain body h) (expr_plain e h)
  stmt_plain (while e body) h = and_from _ _ (expr_plain e h) (stmts_plain body h)
  stmt_plain (for i u s body) h = and_from _ _ (init_plain i h) (and_from _ _ (maybe_plain u h) (and_from _ _ (maybe_plain s h) (stmts_plain body h)))
  stmt_plain (for_in declared u e body) h =
      and_from _ _ (target_plain u _ h (expr_plain u h))
      (and_from _ _ (expr_plain e h) (stmts_plain body h))
  stmt_plain continue h = refl
  stmt_plain break h = refl
  stmt_plain (return e) h = maybe_plain e h
  stmt_plain (throw e) h = expr_plain e h
  stmt_plain (try body c e) h =
      and_from _ _ (stmts_plain body h)
      (and_from _ _ (catch_plain c h) (maybe_body_plain e h))
  stmt_plain (switch e cs) h = and_from _ _ (expr_plain e h) (cases_plain cs h)

  stmts_plain : {fs : List Frame} (t : tree.Stmts) → ArePlain fs → stmts_fit fs t ≡ true
  stmts_plain no_stmts h = refl
  stmts_plain (then_stmt s ss) h = and_from _ _ (stmt_plain s h) (stmts_plain ss h)

  maybe_body_plain : {fs : List Frame} (t : tree.MaybeStmts) → ArePlain fs → maybe_body_fits fs t ≡ true
  maybe_body_plain no_body h = refl
  maybe_body_plain (one_body ss) h = stmts_plain ss h

  declarators_plain : {fs : List Frame} (t : tree.Declarators) → ArePlain fs → declarators_fit fs t ≡ true
  declarators_plain no_declarators h = refl
  declarators_plain (then_declarator x e ds) h =
      and_from _ _ (declarator_plain x e h)
      (declarators_plain ds h)

  declarator_plain : {fs : List Frame} (x : List ℕ) (t : tree.MaybeExpr) → ArePlain fs → declarator_fits fs x t ≡ true
  declarator_plain x no_expr h = refl
  declarator_plain x (one_expr e) h = and_from _ _ (reached true x h) (expr_plain e h)

  init_plain : {fs : List Frame} (t : tree.ForInit) → ArePlain fs → init_fits fs t ≡ true
  init_plain no_init h = refl
  init_plain (init_var ds) h = declarators_plain ds h
  init_plain (init_expr e) h = expr_plain e h

  catch_plain : {fs : List Frame} (t : tree.MaybeCatch) → ArePlain fs → catch_fits fs t ≡ true
  catch_plain no_catch h = refl
  catch_plain (one_catch x ss) h = stmts_plain ss (frame_plain (x ∷ []) h)

  cases_plain : {fs : List Frame} (t : tree.Cases) → ArePlain fs → cases_fit fs t ≡ true
  cases_plain no_cases h = refl
  cases_plain (then_case e ss cs) h =
      and_from _ _ (maybe_plain e h)
      (and_from _ _ (stmts_plain ss h) (cases_plain cs h))

-- ---- scripts

pub script_fits : (script : tree.Stmts) → stmts_fit [] script ≡ true
script_fits script = stmts_plain script no_frames_plain
