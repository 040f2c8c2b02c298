-- A name that the body of a function does not declare, its opened body does not declare either (section 10.5).
use Rattle.std.proofs.Common.{◌≡◌, refl, sym, ap, ◌∙◌, ℕ, ◌+◌, Bool, true, false, ◌||◌, ◌&&◌, not, List, [], ◌∷◌, ◌++◌, Option, Some, None, is_some, bytes_eq, if◌then◌else◌}
use Rattle.agreement.proofs.Declared.{init_variables, opened_names, statements_variables, variables_append}
use Rattle.std.proofs.lemmas.List.{append-nil}
use Rattle.std.proofs.lemmas.List.Folds.{list_any-append}
use Rattle.std.proofs.lemmas.Bool.{or_parts}
use Rattle.code_table.specs.Declarations as held
use Rattle.code_table.specs.Declarations.{body_variables, case_variables, catch_variables, functions_of, init_names, stmt_variables, target_names, variables_of}
use Rattle.js_core.specs.Tree as tree
use Rattle.js_core.specs.Tree.{name, num, text, bool, null, this, list, literal, func, member, index, call, construct, unary, update, binary, logical_and, logical_or, conditional, assign, comma, no_exprs, then_expr, no_expr, one_expr, code, var, function, expr, empty, block, if_else, do_while, while, for, for_in, continue, break, return, throw, try, switch, no_stmts, then_stmt, no_body, one_body, no_declarators, then_declarator, no_init, init_var, init_expr, no_catch, one_catch, no_cases, then_case}
use Rattle.page_meaning.specs.Functions.{function_names}
use Rattle.scope_analysis.specs.Names.{is_among}
use Rattle.instrumenter.specs.Around.{Around, append, as_init, as_statements, assignments, before_for, before_for_in, declared_name, field_or_name, in_clause, is_changed, next_number, opened_clause, opened_fields, opened_var, plain_names, single, target_is_field, var_of, var_where_any}
use Rattle.instrumenter.specs.Counting.{catch_scopes, expr_scopes, init_scopes, maybe_expr_scopes, stmt_scopes, stmts_scopes}
use Rattle.instrumenter.specs.Fields.{clause_fields}
use Rattle.instrumenter.specs.Opening.{open_cases, open_catch, open_declarations, open_declarators, open_expr, open_init, open_maybe, open_maybe_body, open_stmt, open_stmts}

-- ---- names that are in neither of two lists

two_avoid : (x : List ℕ) (xs ys : List (List ℕ)) → is_among x xs ≡ false → is_among x ys ≡ false → is_among x (xs ++ ys) ≡ false
two_avoid x xs ys h k = list_any-append (bytes_eq x) xs ys ∙ (λ i. h i || k i)

avoid_parts : (x : List ℕ) (xs ys : List (List ℕ)) → is_among x (xs ++ ys) ≡ false → (is_among x xs ≡ false) × (is_among x ys ≡ false)
avoid_parts x xs ys h = or_parts (is_among x xs) (is_among x ys) (sym (list_any-append (bytes_eq x) xs ys) ∙ h)

last_avoid : (x : List ℕ) (xs : List (List ℕ)) → is_among x xs ≡ false → is_among x (xs ++ []) ≡ false
last_avoid x xs h = ap (is_among x) (append-nil xs) ∙ h

module _ (x : List ℕ) where
  plain_avoid : (a : Around) (ds : tree.Declarators) → is_among x (held.declarator_names ds) ≡ false → is_among x (held.declarator_names (plain_names a ds)) ≡ false
  plain_avoid a no_declarators h = h
  plain_avoid a (then_declarator y e ds) h =
      let both = avoid_parts x (y ∷ []) (held.declarator_names ds) h in
      by_case (a.own y) (plain_avoid a ds both.1) (two_avoid x (y ∷ []) (held.declarator_names (plain_names a ds)) both.0 (plain_avoid a ds both.1))
    where
      by_case : (b : Bool) → is_among x (held.declarator_names (plain_names a ds)) ≡ false → is_among x (y ∷ held.declarator_names (plain_names a ds)) ≡ false
          → is_among x (held.declarator_names (if b then plain_names a ds else then_declarator y no_expr (plain_names a ds))) ≡ false
      by_case true one two = one
      by_case false one two = two

  where_avoid : (ds : tree.Declarators) (ss : tree.Stmts) → is_among x (held.declarator_names ds) ≡ false → is_among x (variables_of ss) ≡ false → is_among x (variables_of (var_where_any ds ss)) ≡ false
  where_avoid no_declarators ss h k = k
  where_avoid (then_declarator y e ds) ss h k = two_avoid x (held.declarator_names (then_declarator y e ds)) (variables_of ss) h k

  opened_avoid : (a : Around) (n : ℕ) (ds : tree.Declarators) → is_among x (held.declarator_names ds) ≡ false → is_among x (held.declarator_names (open_declarators a n ds)) ≡ false
  opened_avoid a n ds h = ap (is_among x) (opened_names a n ds) ∙ h

  var_avoid : (a : Around) (n : ℕ) (ds : tree.Declarators) → is_among x (held.declarator_names ds) ≡ false → is_among x (variables_of (opened_var a ds (open_declarators a n ds))) ≡ false
  var_avoid a n ds h = by_case (is_changed a ds)
    where
      es : tree.Exprs
      es = assignments a (open_declarators a n ds)

      by_case : (b : Bool) → is_among x (variables_of (if b then var_where_any (plain_names a ds) (as_statements es) else single (var (open_declarators a n ds)))) ≡ false
      by_case true = where_avoid (plain_names a ds) (as_statements es) (plain_avoid a ds h) (ap (is_among x) (statements_variables es))
      by_case false = last_avoid x (held.declarator_names (open_declarators a n ds)) (opened_avoid a n ds h)

  for_avoid : (a : Around) (n : ℕ) (i : tree.ForInit) (t s : tree.MaybeExpr) (body : tree.Stmts) → is_among x (init_names i) ≡ false → is_among x (variables_of body) ≡ false
      → is_among x (variables_of (before_for a i (single (for (open_init a n i) t s body)))) ≡ false
  for_avoid a n no_init t s body h k = last_avoid x (variables_of body) k
  for_avoid a n (init_expr e) t s body h k = last_avoid x (variables_of body) k
  for_avoid a n (init_var ds) t s body h k = by_case (is_changed a ds)
    where
      es : tree.Exprs
      es = assignments a (open_declarators a n ds)

      by_case : (b : Bool)
          → is_among x (variables_of (if b then var_where_any (plain_names a ds) (single (for (if b then as_init es else init_var (open_declarators a n ds)) t s body)) else single (for (if b then as_init es else init_var (open_declarators a n ds)) t s body)))
          ≡ false
      by_case true =
          where_avoid (plain_names a ds) (single (for (as_init es) t s body)) (plain_avoid a ds h)
          (last_avoid x (init_names (as_init es) ++ variables_of body) (two_avoid x (init_names (as_init es)) (variables_of body) (ap (is_among x) (init_variables es)) k))
      by_case false =
          last_avoid x (held.declarator_names (open_declarators a n ds) ++ variables_of body)
          (two_avoid x (held.declarator_names (open_declarators a n ds)) (variables_of body) (opened_avoid a n ds h) k)

  for_in_avoid : (a : Around) (n : ℕ) (declared : Bool) (t e : tree.Expr) (body : tree.Stmts) → is_among x (target_names declared t) ≡ false → is_among x (variables_of body) ≡ false
      → is_among x (variables_of (before_for_in a declared t (single (for_in (declared && not (target_is_field a t)) (open_expr a n t) e body)))) ≡ false
  for_in_avoid a n true (name y) e body h k = by_case (a.fields y) (a.own y)
    where
      whole : Option ℕ → tree.Stmt
      whole o = for_in (not (is_some o)) (field_or_name o y) e body

      by_case : (o : Option ℕ) (b : Bool)
          → is_among x (variables_of (if is_some o && not b then then_stmt (var (then_declarator y no_expr no_declarators)) (single (whole o)) else single (whole o))) ≡ false
      by_case None b = last_avoid x (y ∷ variables_of body) (two_avoid x (y ∷ []) (variables_of body) h k)
      by_case (Some m) true = last_avoid x (variables_of body) k
      by_case (Some m) false = two_avoid x (y ∷ []) (variables_of body ++ []) h (last_avoid x (variables_of body) k)
  for_in_avoid a n false (name y) e body h k = last_avoid x (variables_of body) k
  for_in_avoid a n true (func (code y formals us)) e body h k = last_avoid x (variables_of body) k
  for_in_avoid a n false (func (code y formals us)) e body h k = last_avoid x (variables_of body) k
  for_in_avoid a n true t e body h k = last_avoid x (variables_of body) k
  for_in_avoid a n false t e body h k = last_avoid x (variables_of body) k

  clause_avoid : (a : Around) (n : ℕ) (F : List (List ℕ)) (y : List ℕ) (us : tree.Stmts) → is_among x (variables_of us) ≡ false → is_among x (catch_variables (opened_clause n F y us)) ≡ false
  clause_avoid a n [] y us h = h
  clause_avoid a n (z ∷ zs) y us h = h

  mutual
    stmt_avoid : (a : Around) (n : ℕ) (s : tree.Stmt) → is_among x (stmt_variables s) ≡ false → is_among x (variables_of (open_stmt a n s)) ≡ false
    stmt_avoid a n (var ds) h = var_avoid a n ds h
    stmt_avoid a n (function c) h = by_case a.opens
      where
        by_case : (b : Bool) → is_among x (variables_of (if b then no_stmts else single (function c))) ≡ false
        by_case true = refl
        by_case false = refl
    stmt_avoid a n (expr e) h = refl
    stmt_avoid a n empty h = refl
    stmt_avoid a n (block ss) h = last_avoid x _ (stmts_avoid a n ss h)
    stmt_avoid a n (if_else e p q) h =
        let m = n + expr_scopes e in
        let both = avoid_parts x (variables_of p) (body_variables q) h in
        last_avoid x _ (two_avoid x (variables_of (open_stmts a m p)) (body_variables (open_maybe_body a (m + stmts_scopes p) q)) (stmts_avoid a m p both.0) (maybe_body_avoid a (m + stmts_scopes p) q both.1))
    stmt_avoid a n (do_while body e) h = last_avoid x _ (stmts_avoid a n body h)
    stmt_avoid a n (while e body) h = last_avoid x _ (stmts_avoid a (n + expr_scopes e) body h)
    stmt_avoid a n (for i t s body) h =
        let m = n + init_scopes i in
        let k = m + maybe_expr_scopes t in
        let o = k + maybe_expr_scopes s in
        let both = avoid_parts x (init_names i) (variables_of body) h in
        for_avoid a n i (open_maybe a m t) (open_maybe a k s) (open_stmts a o body) both.0 (stmts_avoid a o body both.1)
    stmt_avoid a n (for_in declared t e body) h =
        let m = n + expr_scopes t in
        let both = avoid_parts x (target_names declared t) (variables_of body) h in
        for_in_avoid a n declared t (open_expr a m e) (open_stmts a (m + expr_scopes e) body) both.0 (stmts_avoid a (m + expr_scopes e) body both.1)
    stmt_avoid a n continue h = refl
    stmt_avoid a n break h = refl
    stmt_avoid a n (return e) h = refl
    stmt_avoid a n (throw e) h = refl
    stmt_avoid a n (try b c l) h =
        let m = n + stmts_scopes b in
        let o = m + catch_scopes c in
        let one = avoid_parts x (variables_of b) (catch_variables c ++ body_variables l) h in
        let two = avoid_parts x (catch_variables c) (body_variables l) one.1 in
        last_avoid x _ (two_avoid x (variables_of (open_stmts a n b)) (catch_variables (open_catch a m c) ++ body_variables (open_maybe_body a o l)) (stmts_avoid a n b one.0)
        (two_avoid x (catch_variables (open_catch a m c)) (body_variables (open_maybe_body a o l)) (catch_avoid a m c two.0) (maybe_body_avoid a o l two.1)))
    stmt_avoid a n (switch e cs) h = last_avoid x _ (cases_avoid a (n + expr_scopes e) cs h)

    pub stmts_avoid : (a : Around) (n : ℕ) (ss : tree.Stmts) → is_among x (variables_of ss) ≡ false → is_among x (variables_of (open_stmts a n ss)) ≡ false
    stmts_avoid a n no_stmts h = h
    stmts_avoid a n (then_stmt s ss) h =
        let m = n + stmt_scopes s in
        let both = avoid_parts x (stmt_variables s) (variables_of ss) h in
        ap (is_among x) (variables_append (open_stmt a n s) (open_stmts a m ss))
        ∙ two_avoid x (variables_of (open_stmt a n s)) (variables_of (open_stmts a m ss)) (stmt_avoid a n s both.0) (stmts_avoid a m ss both.1)

    maybe_body_avoid : (a : Around) (n : ℕ) (ss : tree.MaybeStmts) → is_among x (body_variables ss) ≡ false → is_among x (body_variables (open_maybe_body a n ss)) ≡ false
    maybe_body_avoid a n no_body h = h
    maybe_body_avoid a n (one_body ss) h = stmts_avoid a n ss h

    catch_avoid : (a : Around) (n : ℕ) (c : tree.MaybeCatch) → is_among x (catch_variables c) ≡ false → is_among x (catch_variables (open_catch a n c)) ≡ false
    catch_avoid a n no_catch h = h
    catch_avoid a n (one_catch y ss) h =
        let F = opened_fields a.opens (clause_fields y ss) in
        clause_avoid a n F y (open_stmts (in_clause a n F y) (next_number F n) ss) (stmts_avoid (in_clause a n F y) (next_number F n) ss h)

    cases_avoid : (a : Around) (n : ℕ) (cs : tree.Cases) → is_among x (case_variables cs) ≡ false → is_among x (case_variables (open_cases a n cs)) ≡ false
    cases_avoid a n no_cases h = h
    cases_avoid a n (then_case e ss cs) h =
        let m = n + maybe_expr_scopes e in
        let both = avoid_parts x (variables_of ss) (case_variables cs) h in
        two_avoid x (variables_of (open_stmts a m ss)) (case_variables (open_cases a (m + stmts_scopes ss) cs)) (stmts_avoid a m ss both.0) (cases_avoid a (m + stmts_scopes ss) cs both.1)

  named_avoid : (a : Around) (y : List ℕ) (e : tree.Expr) (ss : tree.Stmts) → bytes_eq x y ≡ false → is_among x (variables_of ss) ≡ false → is_among x (variables_of (then_stmt (declared_name a y e) ss)) ≡ false
  named_avoid a y e ss h k = by_case (a.own y)
    where
      by_case : (b : Bool) → is_among x (variables_of (then_stmt (if b then expr (assign None (field_or_name (a.fields y) y) e) else var_of y e) ss)) ≡ false
      by_case true = k
      by_case false = (λ i. h i || k i)

  pub declarations_avoid : (a : Around) (n : ℕ) (ss : tree.Stmts) → is_among x (function_names (functions_of ss)) ≡ false → is_among x (variables_of (open_declarations a n ss)) ≡ false
  declarations_avoid a n no_stmts h = h
  declarations_avoid a n (then_stmt (function (code None formals body)) ss) h = declarations_avoid a (n + stmt_scopes (function (code None formals body))) ss h
  declarations_avoid a n (then_stmt (function (code (Some y) formals body)) ss) h =
      let both = or_parts (bytes_eq x y) (is_among x (function_names (functions_of ss))) h in
      named_avoid a y _ (open_declarations a (n + stmt_scopes (function (code (Some y) formals body))) ss) both.0 (declarations_avoid a (n + stmt_scopes (function (code (Some y) formals body))) ss both.1)
  declarations_avoid a n (then_stmt s ss) h = declarations_avoid a (n + stmt_scopes s) ss h

  -- what a body does not declare its opened one does not
  pub body_avoid : (a : Around) (n : ℕ) (ss : tree.Stmts) → is_among x (function_names (functions_of ss)) ≡ false → is_among x (variables_of ss) ≡ false
      → is_among x (variables_of (append (open_declarations a n ss) (open_stmts a n ss))) ≡ false
  body_avoid a n ss h k =
      ap (is_among x) (variables_append (open_declarations a n ss) (open_stmts a n ss))
      ∙ two_avoid x (variables_of (open_declarations a n ss)) (variables_of (open_stmts a n ss)) (declarations_avoid a n ss h) (stmts_avoid a n ss k)
