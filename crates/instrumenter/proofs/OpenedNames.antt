-- The names that opened statements declare: those that were declared, but for the fields of the function round them.
use Rattle.std.proofs.Common.{◌≡◌, refl, sym, ℕ, ◌+◌, Bool, true, false, not, ◌&&◌, List, [], ◌∷◌, ◌++◌, Option, Some, None, append_assoc, if◌then◌else◌}
use Rattle.std.specs.Prelude.{is_some}
use Rattle.js_core.specs.Tree as tree
use Rattle.js_core.specs.Tree.{name, num, text, bool, null, this, list, literal, func, member, index, call, construct, unary, update, binary, logical_and, logical_or, conditional, assign, comma, no_exprs, then_expr, no_expr, one_expr, no_holes, then_hole, no_fields, then_field, code, var, function, expr, empty, block, if_else, do_while, while, for, for_in, continue, break, return, throw, try, switch, no_stmts, then_stmt, no_body, one_body, no_declarators, then_declarator, no_init, init_var, init_expr, no_catch, one_catch, no_cases, then_case}
use Rattle.scope_analysis.specs.Names.{case_names, catch_names, declarator_names, declared_names, init_names, maybe_body_names, maybe_name, stmt_names, target_names}
use Rattle.instrumenter.specs.Around.{Around, append, as_init, as_statements, before_for, before_for_in, clause_object, declaration, declared_name, field_inside, field_or_name, is_changed, next_number, plain_names, single, target_is_field, var_of, var_where_any}
use Rattle.instrumenter.specs.Counting.{maybe_expr_scopes, stmt_scopes}
use Rattle.instrumenter.specs.Fields.{clause_fields}
use Rattle.instrumenter.specs.Opening.{open_cases, open_catch, open_declarations, open_declarators, open_expr, open_init, open_maybe_body, open_stmt, open_stmts}
use Rattle.instrumenter.proofs.Each.{Each, each_both, each_parts}

-- scopes are opened, these names are fields, and these are ones of the innermost function
abbrev pub opening : (List ℕ → Option ℕ) → (List ℕ → Bool) → Around
opening f w = record { opens = true; fields = f; own = w }

pub declared_append : (s t : tree.Stmts) → declared_names (append s t) ≡ declared_names s ++ declared_names t
declared_append no_stmts t = refl
declared_append (then_stmt s ss) t = rw (declared_append ss t) (sym (append_assoc (stmt_names s) (declared_names ss) (declared_names t)))

pub opened_declarator_names : (a : Around) (n : ℕ) (ds : tree.Declarators) → declarator_names (open_declarators a n ds) ≡ declarator_names ds
opened_declarator_names a n no_declarators = refl
opened_declarator_names a n (then_declarator x e ds) = rw (opened_declarator_names a (n + maybe_expr_scopes e) ds) refl

none_declared : (es : tree.Exprs) → declared_names (as_statements es) ≡ []
none_declared no_exprs = refl
none_declared (then_expr e es) = none_declared es

pub no_init_names : (es : tree.Exprs) → init_names (as_init es) ≡ []
no_init_names no_exprs = refl
no_init_names (then_expr e no_exprs) = refl
no_init_names (then_expr e (then_expr d es)) = refl

module _ (P : List ℕ → Type 0) where
  pub append_both : (s t : tree.Stmts) → Each P (declared_names s) → Each P (declared_names t) → Each P (declared_names (append s t))
  append_both s t h k = rw (declared_append s t) (each_both P (declared_names s) (declared_names t) h k)

  pub append_parts : (s t : tree.Stmts) → Each P (declared_names (append s t)) → Each P (declared_names s) × Each P (declared_names t)
  append_parts s t h = each_parts P (declared_names s) (declared_names t) (rw (declared_append s t) at h)

-- ---- names that are declared were declared

module _ (P : List ℕ → Type 0) where
  alone : (xs : List (List ℕ)) → Each P xs → Each P (xs ++ [])
  alone xs h = each_both P xs [] h tt

  plain_from : (a : Around) (ds : tree.Declarators) → Each P (declarator_names ds) → Each P (declarator_names (plain_names a ds))
  plain_from a no_declarators h = tt
  plain_from a (then_declarator x e ds) h = by (a.own x) (plain_from a ds h.1)
    where
      by : (b : Bool) → Each P (declarator_names (plain_names a ds))
          → Each P (declarator_names (if b then plain_names a ds else then_declarator x no_expr (plain_names a ds)))
      by true k = k
      by false k = (h.0, k)

  where_any : (ds : tree.Declarators) (ss : tree.Stmts) → Each P (declarator_names ds) → Each P (declared_names ss) → Each P (declared_names (var_where_any ds ss))
  where_any no_declarators ss h k = k
  where_any (then_declarator x e ds) ss h k = each_both P (declarator_names (then_declarator x e ds)) (declared_names ss) h k

  var_from : (b : Bool) (plain opened : tree.Declarators) (es : tree.Exprs) → Each P (declarator_names plain) → Each P (declarator_names opened)
      → Each P (declared_names (if b then var_where_any plain (as_statements es) else single (var opened)))
  var_from true plain opened es h k = where_any plain (as_statements es) h (rw (none_declared es) tt)
  var_from false plain opened es h k = alone (declarator_names opened) k

  opened_from : (a : Around) (n : ℕ) (ds : tree.Declarators) → Each P (declarator_names ds) → Each P (declarator_names (open_declarators a n ds))
  opened_from a n ds h = rw (opened_declarator_names a n ds) h

  for_var_from : (b : Bool) (plain opened : tree.Declarators) (es : tree.Exprs) (t s : tree.MaybeExpr) (body : tree.Stmts)
      → Each P (declarator_names plain) → Each P (declarator_names opened) → Each P (declared_names body)
      → Each P (declared_names (if b then var_where_any plain (single (for (if b then as_init es else init_var opened) t s body))
      else single (for (if b then as_init es else init_var opened) t s body)))
  for_var_from true plain opened es t s body h k r =
      where_any plain (single (for (as_init es) t s body)) h (rw (no_init_names es) (alone (declared_names body) r))
  for_var_from false plain opened es t s body h k r =
      alone (declarator_names opened ++ declared_names body) (each_both P (declarator_names opened) (declared_names body) k r)

  for_from : (f : List ℕ → Option ℕ) (w : List ℕ → Bool) (n : ℕ) (i : tree.ForInit) (t s : tree.MaybeExpr) (body : tree.Stmts)
      → Each P (init_names i) → Each P (declared_names body)
      → Each P (declared_names (before_for (opening f w) i (single (for (open_init (opening f w) n i) t s body))))
  for_from f w n no_init t s body h r = alone (declared_names body) r
  for_from f w n (init_var ds) t s body h r =
      for_var_from (is_changed (opening f w) ds) (plain_names (opening f w) ds) (open_declarators (opening f w) n ds) _ t s body
      (plain_from (opening f w) ds h) (opened_from (opening f w) n ds h) r
  for_from f w n (init_expr e) t s body h r = alone (declared_names body) r

  field_target_from : (o : Option ℕ) (b : Bool) (x : List ℕ) (e : tree.Expr) (body : tree.Stmts) → P x → Each P (declared_names body)
      → Each P (declared_names (if is_some o && not b then then_stmt (var (then_declarator x no_expr no_declarators)) (single (for_in (true && not (is_some o)) (field_or_name o x) e body))
      else single (for_in (true && not (is_some o)) (field_or_name o x) e body)))
  field_target_from None b x e body h r = (h, alone (declared_names body) r)
  field_target_from (Some k) true x e body h r = alone (declared_names body) r
  field_target_from (Some k) false x e body h r = (h, alone (declared_names body) r)

  for_in_from : (f : List ℕ → Option ℕ) (w : List ℕ → Bool) (n : ℕ) (declared : Bool) (t : tree.Expr) (e : tree.Expr) (body : tree.Stmts)
      → Each P (target_names declared t) → Each P (declared_names body)
      → Each P (declared_names (before_for_in (opening f w) declared t (single (for_in (declared && not (target_is_field (opening f w) t)) (open_expr (opening f w) n t) e body))))
  for_in_from f w n false t e body h r = alone (declared_names body) r
  for_in_from f w n true (name x) e body h r = field_target_from (f x) (w x) x e body h.0 r
  for_in_from f w n true (func (code x formals ss)) e body h r = alone (declared_names body) r
  for_in_from f w n true t e body h r = alone (declared_names body) r

  clause_from : (n : ℕ) (fields : List (List ℕ)) (ss : tree.Stmts) → Each P (declared_names ss) → Each P (declared_names (clause_object n fields ss))
  clause_from n [] ss h = h
  clause_from n (x ∷ xs) ss h = h

  mutual
    pub stmt_from : (f : List ℕ → Option ℕ) (w : List ℕ → Bool) (n : ℕ) (s : tree.Stmt) → Each P (stmt_names s) → Each P (declared_names (open_stmt (opening f w) n s))
    stmt_from f w n (var ds) h =
        var_from (is_changed (opening f w) ds) (plain_names (opening f w) ds) (open_declarators (opening f w) n ds) _ (plain_from (opening f w) ds h) (opened_from (opening f w) n ds h)
    stmt_from f w n (function c) h = tt
    stmt_from f w n (expr e) h = tt
    stmt_from f w n empty h = tt
    stmt_from f w n (block ss) h = alone _ (stmts_from f w _ ss h)
    stmt_from f w n (if_else e a b) h =
        let parts = each_parts P (declared_names a) (maybe_body_names b) h in
        alone _ (each_both P _ _ (stmts_from f w _ a parts.0) (body_from f w _ b parts.1))
    stmt_from f w n (do_while body e) h = alone _ (stmts_from f w _ body h)
    stmt_from f w n (while e body) h = alone _ (stmts_from f w _ body h)
    stmt_from f w n (for i t s body) h =
        let parts = each_parts P (init_names i) (declared_names body) h in
        for_from f w _ i _ _ _ parts.0 (stmts_from f w _ body parts.1)
    stmt_from f w n (for_in declared t e body) h =
        let parts = each_parts P (target_names declared t) (declared_names body) h in
        for_in_from f w _ declared t _ _ parts.0 (stmts_from f w _ body parts.1)
    stmt_from f w n continue h = tt
    stmt_from f w n break h = tt
    stmt_from f w n (return e) h = tt
    stmt_from f w n (throw e) h = tt
    stmt_from f w n (try b c l) h =
        let parts = each_parts P (declared_names b) (catch_names c ++ maybe_body_names l) h in
        let more = each_parts P (catch_names c) (maybe_body_names l) parts.1 in
        alone _ (each_both P _ _ (stmts_from f w _ b parts.0) (each_both P _ _ (catch_from f w _ c more.0) (body_from f w _ l more.1)))
    stmt_from f w n (switch e cs) h = alone _ (cases_from f w _ cs h)

    pub stmts_from : (f : List ℕ → Option ℕ) (w : List ℕ → Bool) (n : ℕ) (ss : tree.Stmts) → Each P (declared_names ss) → Each P (declared_names (open_stmts (opening f w) n ss))
    stmts_from f w n no_stmts h = tt
    stmts_from f w n (then_stmt s ss) h =
        let parts = each_parts P (stmt_names s) (declared_names ss) h in
        append_both P (open_stmt (opening f w) n s) (open_stmts (opening f w) (n + stmt_scopes s) ss)
        (stmt_from f w n s parts.0) (stmts_from f w (n + stmt_scopes s) ss parts.1)

    body_from : (f : List ℕ → Option ℕ) (w : List ℕ → Bool) (n : ℕ) (b : tree.MaybeStmts) → Each P (maybe_body_names b) → Each P (maybe_body_names (open_maybe_body (opening f w) n b))
    body_from f w n no_body h = tt
    body_from f w n (one_body ss) h = stmts_from f w _ ss h

    catch_from : (f : List ℕ → Option ℕ) (w : List ℕ → Bool) (n : ℕ) (c : tree.MaybeCatch) → Each P (catch_names c) → Each P (catch_names (open_catch (opening f w) n c))
    catch_from f w n no_catch h = tt
    catch_from f w n (one_catch x ss) h =
        clause_from n (clause_fields x ss) _ (stmts_from (field_inside (clause_fields x ss) (x ∷ []) n f) w (next_number (clause_fields x ss) n) ss h)

    cases_from : (f : List ℕ → Option ℕ) (w : List ℕ → Bool) (n : ℕ) (cs : tree.Cases) → Each P (case_names cs) → Each P (case_names (open_cases (opening f w) n cs))
    cases_from f w n no_cases h = tt
    cases_from f w n (then_case e ss cs) h =
        let parts = each_parts P (declared_names ss) (case_names cs) h in
        each_both P _ _ (stmts_from f w _ ss parts.0) (cases_from f w _ cs parts.1)

  declared_from : (b : Bool) (x : List ℕ) (d e : tree.Expr) → P x → Each P (stmt_names (if b then expr d else var_of x e))
  declared_from true x d e h = tt
  declared_from false x d e h = (h, tt)

  declaration_from : (a : Around) (x : Option (List ℕ)) (e : tree.Expr) (ss : tree.Stmts) → Each P (maybe_name x) → Each P (declared_names ss) → Each P (declared_names (declaration a x e ss))
  declaration_from a None e ss h k = k
  declaration_from a (Some x) e ss h k =
      each_both P (stmt_names (declared_name a x e)) (declared_names ss) (declared_from (a.own x) x (assign None (field_or_name (a.fields x) x) e) e h.0) k

  pub declarations_from : (f : List ℕ → Option ℕ) (w : List ℕ → Bool) (n : ℕ) (ss : tree.Stmts) → Each P (declared_names ss) → Each P (declared_names (open_declarations (opening f w) n ss))
  declarations_from f w n no_stmts h = tt
  declarations_from f w n (then_stmt (function (code x formals body)) ss) h =
      let parts = each_parts P (maybe_name x) (declared_names ss) h in
      declaration_from (opening f w) x _ _ parts.0 (declarations_from f w (n + stmt_scopes (function (code x formals body))) ss parts.1)
  declarations_from f w n (then_stmt s ss) h =
      declarations_from f w (n + stmt_scopes s) ss (each_parts P (stmt_names s) (declared_names ss) h).1
