-- The names that statements declare are declared when they are opened, but for the fields of the function round them.
use Rattle.std.proofs.Common.{◌≡◌, refl, ℕ, ◌+◌, Bool, true, false, not, ◌&&◌, List, [], ◌∷◌, ◌++◌, Option, Some, None, if◌then◌else◌}
use Rattle.std.specs.Prelude.{is_some}
use Rattle.js_core.specs.Tree as tree
use Rattle.js_core.specs.Tree.{name, num, text, bool, null, this, list, literal, func, member, index, call, construct, unary, update, binary, logical_and, logical_or, conditional, assign, comma, no_exprs, then_expr, no_expr, one_expr, no_holes, then_hole, no_fields, then_field, code, var, function, expr, empty, block, if_else, do_while, while, for, for_in, continue, break, return, throw, try, switch, no_stmts, then_stmt, no_body, one_body, no_declarators, then_declarator, no_init, init_var, init_expr, no_catch, one_catch, no_cases, then_case}
use Rattle.js_grammar.specs.Syntax.{AreCases, AreStmts, IsMaybeBody, IsMaybeCatch, IsStmt}
use Rattle.scope_analysis.specs.Names.{case_names, catch_names, declarator_names, declared_names, init_names, maybe_body_names, maybe_name, stmt_names, target_names}
use Rattle.instrumenter.specs.Around.{as_init, as_statements, before_for, before_for_in, clause_object, declaration, declared_name, field_inside, field_or_name, is_changed, next_number, plain_names, single, target_is_field, var_of, var_where_any}
use Rattle.instrumenter.specs.Counting.{catch_scopes, expr_scopes, init_scopes, maybe_expr_scopes, stmt_scopes, stmts_scopes}
use Rattle.instrumenter.specs.Fields.{clause_fields}
use Rattle.instrumenter.specs.Opening.{open_cases, open_catch, open_declarations, open_declarators, open_expr, open_init, open_maybe_body, open_stmt, open_stmts}
use Rattle.instrumenter.proofs.Each.{Each, each_both, each_parts}
use Rattle.instrumenter.proofs.OpenedNames.{append_parts, opened_declarator_names, opening}

-- P holds of the fields of the function, and of the names that are declared
module _ (P : List ℕ → Type 0) (w : List ℕ → Bool) (fields : (x : List ℕ) → w x ≡ true → P x) where
  plain_kept : (f : List ℕ → Option ℕ) (ds : tree.Declarators) → Each P (declarator_names (plain_names (opening f w) ds)) → Each P (declarator_names ds)
  plain_kept f no_declarators h = tt
  plain_kept f (then_declarator x e ds) h = by (w x) refl (plain_kept f ds) h
    where
      by : (b : Bool) → w x ≡ b → (Each P (declarator_names (plain_names (opening f w) ds)) → Each P (declarator_names ds))
          → Each P (declarator_names (if b then plain_names (opening f w) ds else then_declarator x no_expr (plain_names (opening f w) ds)))
          → Each P (declarator_names (then_declarator x e ds))
      by true is more k = (fields x is, more k)
      by false is more k = (k.0, more k.1)

  before : (xs ys : List (List ℕ)) → Each P (xs ++ ys) → Each P xs
  before xs ys h = (each_parts P xs ys h).0

  where_any : (ds : tree.Declarators) (ss : tree.Stmts) → Each P (declared_names (var_where_any ds ss)) → Each P (declarator_names ds) × Each P (declared_names ss)
  where_any no_declarators ss h = (tt, h)
  where_any (then_declarator x e ds) ss h = each_parts P (declarator_names (then_declarator x e ds)) (declared_names ss) h

  declarators_kept : (f : List ℕ → Option ℕ) (n : ℕ) (ds : tree.Declarators) → Each P (declarator_names (open_declarators (opening f w) n ds)) → Each P (declarator_names ds)
  declarators_kept f n ds h = rw (opened_declarator_names (opening f w) n ds) at h

  var_kept : (f : List ℕ → Option ℕ) (n : ℕ) (ds : tree.Declarators) (b : Bool) (es : tree.Exprs)
      → Each P (declared_names (if b then var_where_any (plain_names (opening f w) ds) (as_statements es) else single (var (open_declarators (opening f w) n ds))))
      → Each P (declarator_names ds)
  var_kept f n ds true es h = plain_kept f ds (where_any (plain_names (opening f w) ds) (as_statements es) h).0
  var_kept f n ds false es h = declarators_kept f n ds (before (declarator_names (open_declarators (opening f w) n ds)) [] h)

  loop_kept : (i : tree.ForInit) (t s : tree.MaybeExpr) (body : tree.Stmts)
      → Each P (declared_names (single (for i t s body))) → Each P (init_names i) × Each P (declared_names body)
  loop_kept i t s body h = each_parts P (init_names i) (declared_names body) (before (init_names i ++ declared_names body) [] h)

  for_var_kept : (f : List ℕ → Option ℕ) (n : ℕ) (ds : tree.Declarators) (b : Bool) (es : tree.Exprs) (t s : tree.MaybeExpr) (body : tree.Stmts)
      → Each P (declared_names (if b then var_where_any (plain_names (opening f w) ds) (single (for (if b then as_init es else init_var (open_declarators (opening f w) n ds)) t s body))
      else single (for (if b then as_init es else init_var (open_declarators (opening f w) n ds)) t s body)))
      → Each P (declarator_names ds) × Each P (declared_names body)
  for_var_kept f n ds true es t s body h =
      let parts = where_any (plain_names (opening f w) ds) (single (for (as_init es) t s body)) h in
      (plain_kept f ds parts.0, (loop_kept (as_init es) t s body parts.1).1)
  for_var_kept f n ds false es t s body h =
      let parts = loop_kept (init_var (open_declarators (opening f w) n ds)) t s body h in
      (declarators_kept f n ds parts.0, parts.1)

  for_kept : (f : List ℕ → Option ℕ) (n : ℕ) (i : tree.ForInit) (t s : tree.MaybeExpr) (body : tree.Stmts)
      → Each P (declared_names (before_for (opening f w) i (single (for (open_init (opening f w) n i) t s body))))
      → Each P (init_names i) × Each P (declared_names body)
  for_kept f n no_init t s body h = loop_kept no_init t s body h
  for_kept f n (init_var ds) t s body h = for_var_kept f n ds (is_changed (opening f w) ds) _ t s body h
  for_kept f n (init_expr e) t s body h = (tt, before (declared_names body) [] h)

  each_kept : (declared : Bool) (t e : tree.Expr) (body : tree.Stmts)
      → Each P (declared_names (single (for_in declared t e body))) → Each P (target_names declared t) × Each P (declared_names body)
  each_kept declared t e body h = each_parts P (target_names declared t) (declared_names body) (before (target_names declared t ++ declared_names body) [] h)

  field_target_kept : (o : Option ℕ) (x : List ℕ) (b : Bool) → w x ≡ b → (e : tree.Expr) (body : tree.Stmts)
      → Each P (declared_names (if is_some o && not b then then_stmt (var (then_declarator x no_expr no_declarators)) (single (for_in (true && not (is_some o)) (field_or_name o x) e body))
      else single (for_in (true && not (is_some o)) (field_or_name o x) e body)))
      → P x × Each P (declared_names body)
  field_target_kept None x b is e body h = let parts = each_kept true (name x) e body h in (parts.0.0, parts.1)
  field_target_kept (Some k) x true is e body h = (fields x is, before (declared_names body) [] h)
  field_target_kept (Some k) x false is e body h = (h.0, before (declared_names body) [] h.1)

  for_in_kept : (f : List ℕ → Option ℕ) (n : ℕ) (declared : Bool) (t : tree.Expr) (e : tree.Expr) (body : tree.Stmts)
      → Each P (declared_names (before_for_in (opening f w) declared t (single (for_in (declared && not (target_is_field (opening f w) t)) (open_expr (opening f w) n t) e body))))
      → Each P (target_names declared t) × Each P (declared_names body)
  for_in_kept f n false t e body h = (tt, before (declared_names body) [] h)
  for_in_kept f n true (name x) e body h = let parts = field_target_kept (f x) x (w x) refl e body h in ((parts.0, tt), parts.1)
  for_in_kept f n true (func (code x formals ss)) e body h = (tt, before (declared_names body) [] h)
  for_in_kept f n true t e body h = (tt, before (declared_names body) [] h)

  clause_kept : (n : ℕ) (xs : List (List ℕ)) (ss : tree.Stmts) → Each P (declared_names (clause_object n xs ss)) → Each P (declared_names ss)
  clause_kept n [] ss h = h
  clause_kept n (x ∷ xs) ss h = h

  mutual
    stmt_kept : (f : List ℕ → Option ℕ) (n : ℕ) (s : tree.Stmt) → IsStmt false s → Each P (declared_names (open_stmt (opening f w) n s)) → Each P (stmt_names s)
    stmt_kept f n (var ds) is h = var_kept f n ds (is_changed (opening f w) ds) _ h
    stmt_kept f n (function c) is h = cc is.0
    stmt_kept f n (expr e) is h = tt
    stmt_kept f n empty is h = tt
    stmt_kept f n (block ss) is h = stmts_kept f n ss is (before (declared_names (open_stmts (opening f w) n ss)) [] h)
    stmt_kept f n (if_else e a b) is h =
        let one : ℕ = n + expr_scopes e in
        let two : ℕ = one + stmts_scopes a in
        let xs : List (List ℕ) = declared_names (open_stmts (opening f w) one a) in
        let ys : List (List ℕ) = maybe_body_names (open_maybe_body (opening f w) two b) in
        let parts = each_parts P xs ys (before (xs ++ ys) [] h) in
        each_both P _ _ (stmts_kept f one a is.1 parts.0) (body_kept f two b is.2 parts.1)
    stmt_kept f n (do_while body e) is h = stmts_kept f n body is.0 (before (declared_names (open_stmts (opening f w) n body)) [] h)
    stmt_kept f n (while e body) is h =
        stmts_kept f (n + expr_scopes e) body is.1 (before (declared_names (open_stmts (opening f w) (n + expr_scopes e) body)) [] h)
    stmt_kept f n (for i t s body) is h =
        let parts = for_kept f n i _ _ _ h in
        each_both P _ _ parts.0 (stmts_kept f (((n + init_scopes i) + maybe_expr_scopes t) + maybe_expr_scopes s) body is.3 parts.1)
    stmt_kept f n (for_in declared t e body) is h =
        let parts = for_in_kept f n declared t _ _ h in
        each_both P _ _ parts.0 (stmts_kept f ((n + expr_scopes t) + expr_scopes e) body is.3 parts.1)
    stmt_kept f n continue is h = tt
    stmt_kept f n break is h = tt
    stmt_kept f n (return e) is h = tt
    stmt_kept f n (throw e) is h = tt
    stmt_kept f n (try b c l) is h =
        let one : ℕ = n + stmts_scopes b in
        let two : ℕ = one + catch_scopes c in
        let xs : List (List ℕ) = declared_names (open_stmts (opening f w) n b) in
        let ys : List (List ℕ) = catch_names (open_catch (opening f w) one c) in
        let zs : List (List ℕ) = maybe_body_names (open_maybe_body (opening f w) two l) in
        let parts = each_parts P xs (ys ++ zs) (before (xs ++ (ys ++ zs)) [] h) in
        let more = each_parts P ys zs parts.1 in
        each_both P _ _ (stmts_kept f n b is.1 parts.0) (each_both P _ _ (catch_kept f one c is.2 more.0) (body_kept f two l is.3 more.1))
    stmt_kept f n (switch e cs) is h =
        cases_kept f (n + expr_scopes e) cs is.2 (before (case_names (open_cases (opening f w) (n + expr_scopes e) cs)) [] h)

    pub stmts_kept : (f : List ℕ → Option ℕ) (n : ℕ) (ss : tree.Stmts) → AreStmts false ss → Each P (declared_names (open_stmts (opening f w) n ss)) → Each P (declared_names ss)
    stmts_kept f n no_stmts is h = tt
    stmts_kept f n (then_stmt s ss) is h =
        let parts = append_parts P (open_stmt (opening f w) n s) (open_stmts (opening f w) (n + stmt_scopes s) ss) h in
        each_both P _ _ (stmt_kept f n s is.0 parts.0) (stmts_kept f (n + stmt_scopes s) ss is.1 parts.1)

    body_kept : (f : List ℕ → Option ℕ) (n : ℕ) (b : tree.MaybeStmts) → IsMaybeBody b → Each P (maybe_body_names (open_maybe_body (opening f w) n b)) → Each P (maybe_body_names b)
    body_kept f n no_body is h = tt
    body_kept f n (one_body ss) is h = stmts_kept f n ss is h

    catch_kept : (f : List ℕ → Option ℕ) (n : ℕ) (c : tree.MaybeCatch) → IsMaybeCatch c → Each P (catch_names (open_catch (opening f w) n c)) → Each P (catch_names c)
    catch_kept f n no_catch is h = tt
    catch_kept f n (one_catch x ss) is h =
        let fs : List (List ℕ) = clause_fields x ss in
        stmts_kept (field_inside fs (x ∷ []) n f) (next_number fs n) ss is.1 (clause_kept n fs (open_stmts (opening (field_inside fs (x ∷ []) n f) w) (next_number fs n) ss) h)

    cases_kept : (f : List ℕ → Option ℕ) (n : ℕ) (cs : tree.Cases) → AreCases cs → Each P (case_names (open_cases (opening f w) n cs)) → Each P (case_names cs)
    cases_kept f n no_cases is h = tt
    cases_kept f n (then_case e ss cs) is h =
        let one : ℕ = n + maybe_expr_scopes e in
        let parts = each_parts P (declared_names (open_stmts (opening f w) one ss)) (case_names (open_cases (opening f w) (one + stmts_scopes ss) cs)) h in
        each_both P _ _ (stmts_kept f one ss is.1 parts.0) (cases_kept f (one + stmts_scopes ss) cs is.2 parts.1)

  -- ---- the body of a function, whose declarations stand at its start

  declared_kept : (b : Bool) (x : List ℕ) → w x ≡ b → (d e : tree.Expr) → Each P (stmt_names (if b then expr d else var_of x e)) → P x
  declared_kept true x is d e h = fields x is
  declared_kept false x is d e h = h.0

  declaration_kept : (f : List ℕ → Option ℕ) (x : Option (List ℕ)) (e : tree.Expr) (ss : tree.Stmts) → Each P (declared_names (declaration (opening f w) x e ss))
      → Each P (maybe_name x) × Each P (declared_names ss)
  declaration_kept f None e ss h = (tt, h)
  declaration_kept f (Some x) e ss h =
      let parts = each_parts P (stmt_names (declared_name (opening f w) x e)) (declared_names ss) h in
      ((declared_kept (w x) x refl (assign None (field_or_name (f x) x) e) e parts.0, tt), parts.1)

  pub top_kept : (f : List ℕ → Option ℕ) (m n : ℕ) (ss : tree.Stmts) → AreStmts true ss → Each P (declared_names (open_declarations (opening f w) m ss)) → Each P (declared_names (open_stmts (opening f w) n ss))
      → Each P (declared_names ss)
  top_kept f m n no_stmts is h k = tt
  top_kept f m n (then_stmt (function (code x formals body)) ss) is h k =
      let parts = declaration_kept f x _ _ h in
      each_both P _ _ parts.0 (top_kept f (m + stmt_scopes (function (code x formals body))) (n + stmt_scopes (function (code x formals body))) ss is.1 parts.1 k)
  top_kept f m n (then_stmt s ss) is h k =
      let parts = append_parts P (open_stmt (opening f w) n s) (open_stmts (opening f w) (n + stmt_scopes s) ss) k in
      each_both P (stmt_names s) (declared_names ss) (stmt_kept f n s is.0 parts.0) (top_kept f (m + stmt_scopes s) (n + stmt_scopes s) ss is.1 h parts.1)
