-- The jumps that leave opened statements are those that leave the statements.
use Rattle.std.proofs.Common.{◌≡◌, refl, sym, ap, ◌∙◌, ℕ, ◌+◌, Bool, true, false, not, ◌&&◌, ◌||◌, List, [], ◌∷◌, ◌++◌, Option, Some, None, if◌then◌else◌}
use Rattle.std.specs.Prelude.{is_some}
use Rattle.std.proofs.Math.Bool.{or-false, or_assoc}
use Rattle.js_core.specs.Tree as tree
use Rattle.js_core.specs.Tree.{name, num, text, bool, null, this, list, literal, func, member, index, call, construct, unary, update, binary, logical_and, logical_or, conditional, assign, comma, no_exprs, then_expr, no_expr, one_expr, no_holes, then_hole, no_fields, then_field, code, var, function, expr, empty, block, if_else, do_while, while, for, for_in, continue, break, return, throw, try, switch, no_stmts, then_stmt, no_body, one_body, no_declarators, then_declarator, no_init, init_var, init_expr, no_catch, one_catch, no_cases, then_case}
use Rattle.early_rules.specs.Jumps.{cases_leave, catch_leaves, is_continue, is_return, leaves, maybe_body_leaves, stmt_leaves}
use Rattle.scope_analysis.specs.Names.{bound_names, is_among, maybe_name}
use Rattle.early_rules.specs.declared.jump.Jump.{Jump}
use Rattle.instrumenter.specs.Around.{Around, append, as_statements, before_for, before_for_in, clause_object, declaration, field_inside, field_or_name, is_changed, next_number, plain_names, scope_object, single, valued_names, var_of, var_where_any}
use Rattle.instrumenter.specs.Counting.{catch_scopes, expr_scopes, init_scopes, maybe_expr_scopes, stmt_scopes, stmts_scopes}
use Rattle.instrumenter.specs.Fields.{clause_fields}
use Rattle.instrumenter.specs.Opening.{open_cases, open_catch, open_declarations, open_maybe_body, open_stmt, open_stmts}
use Rattle.instrumenter.proofs.Leaving.{declarations_inside, opened_inside, statements_inside}
use Rattle.instrumenter.proofs.OpenedNames.{opening}

pub or_same : {a b c d : Bool} → a ≡ c → b ≡ d → (a || b) ≡ (c || d)
or_same {b = b} {c = c} e h = ap (λ x. x || b) e ∙ ap (λ x. c || x) h

module _ (j : Jump) where
  pub leaves_append : (s t : tree.Stmts) → leaves j (append s t) ≡ (leaves j s || leaves j t)
  leaves_append no_stmts t = refl
  leaves_append (then_stmt s ss) t = ap (λ b. stmt_leaves j s || b) (leaves_append ss t) ∙ sym (or_assoc (stmt_leaves j s) (leaves j ss) (leaves j t))

  statements : (es : tree.Exprs) → leaves j (as_statements es) ≡ false
  statements no_exprs = refl
  statements (then_expr e es) = statements es

  where_any : (ds : tree.Declarators) (ss : tree.Stmts) → leaves j (var_where_any ds ss) ≡ leaves j ss
  where_any no_declarators ss = refl
  where_any (then_declarator x e ds) ss = refl

  var_jumps : (b : Bool) (plain opened : tree.Declarators) (es : tree.Exprs) → leaves j (if b then var_where_any plain (as_statements es) else single (var opened)) ≡ false
  var_jumps true plain opened es = where_any plain (as_statements es) ∙ statements es
  var_jumps false plain opened es = refl

  before : (a : Around) (i : tree.ForInit) (ss : tree.Stmts) → leaves j (before_for a i ss) ≡ leaves j ss
  before a no_init ss = refl
  before a (init_var ds) ss = by (is_changed a ds)
    where
      by : (b : Bool) → leaves j (if b then var_where_any (plain_names a ds) ss else ss) ≡ leaves j ss
      by true = where_any (plain_names a ds) ss
      by false = refl
  before a (init_expr e) ss = refl

  before_in : (a : Around) (declared : Bool) (t : tree.Expr) (ss : tree.Stmts) → leaves j (before_for_in a declared t ss) ≡ leaves j ss
  before_in a true (name x) ss = by (is_some (a.fields x) && not (a.own x))
    where
      by : (b : Bool) → leaves j (if b then then_stmt (var (then_declarator x no_expr no_declarators)) ss else ss) ≡ leaves j ss
      by true = refl
      by false = refl
  before_in a true t ss = refl
  before_in a false t ss = refl

  boxed : (n : ℕ) (fields : List (List ℕ)) (ss : tree.Stmts) → leaves j (clause_object n fields ss) ≡ leaves j ss
  boxed n [] ss = refl
  boxed n (x ∷ xs) ss = refl

  mutual
    pub stmt_jumps : (f : List ℕ → Option ℕ) (w : List ℕ → Bool) (n : ℕ) (s : tree.Stmt) → leaves j (open_stmt (opening f w) n s) ≡ stmt_leaves j s
    stmt_jumps f w n (var ds) = var_jumps (is_changed (opening f w) ds) _ _ _
    stmt_jumps f w n (function c) = refl
    stmt_jumps f w n (expr e) = refl
    stmt_jumps f w n empty = refl
    stmt_jumps f w n (block ss) = or-false _ ∙ stmts_jumps f w n ss
    stmt_jumps f w n (if_else e a b) =
        or-false _ ∙ or_same (stmts_jumps f w (n + expr_scopes e) a) (body_jumps f w ((n + expr_scopes e) + stmts_scopes a) b)
    stmt_jumps f w n (do_while body e) = or-false _ ∙ ap (λ b. is_return j && b) (stmts_jumps f w n body)
    stmt_jumps f w n (while e body) = or-false _ ∙ ap (λ b. is_return j && b) (stmts_jumps f w (n + expr_scopes e) body)
    stmt_jumps f w n (for i t s body) =
        let m : ℕ = ((n + init_scopes i) + maybe_expr_scopes t) + maybe_expr_scopes s in
        before (opening f w) i _ ∙ (or-false (is_return j && leaves j (open_stmts (opening f w) m body)) ∙ ap (λ b. is_return j && b) (stmts_jumps f w m body))
    stmt_jumps f w n (for_in declared t e body) =
        let m : ℕ = (n + expr_scopes t) + expr_scopes e in
        before_in (opening f w) declared t _ ∙ (or-false (is_return j && leaves j (open_stmts (opening f w) m body)) ∙ ap (λ b. is_return j && b) (stmts_jumps f w m body))
    stmt_jumps f w n continue = or-false _
    stmt_jumps f w n break = or-false _
    stmt_jumps f w n (return e) = or-false _
    stmt_jumps f w n (throw e) = refl
    stmt_jumps f w n (try b c l) =
        or-false _ ∙ or_same (stmts_jumps f w n b)
        (or_same (catch_jumps f w (n + stmts_scopes b) c) (body_jumps f w ((n + stmts_scopes b) + catch_scopes c) l))
    stmt_jumps f w n (switch e cs) = or-false _ ∙ ap (λ b. (is_return j || is_continue j) && b) (cases_jumps f w (n + expr_scopes e) cs)

    pub stmts_jumps : (f : List ℕ → Option ℕ) (w : List ℕ → Bool) (n : ℕ) (ss : tree.Stmts) → leaves j (open_stmts (opening f w) n ss) ≡ leaves j ss
    stmts_jumps f w n no_stmts = refl
    stmts_jumps f w n (then_stmt s ss) =
        leaves_append (open_stmt (opening f w) n s) (open_stmts (opening f w) (n + stmt_scopes s) ss)
        ∙ or_same (stmt_jumps f w n s) (stmts_jumps f w (n + stmt_scopes s) ss)

    body_jumps : (f : List ℕ → Option ℕ) (w : List ℕ → Bool) (n : ℕ) (b : tree.MaybeStmts) → maybe_body_leaves j (open_maybe_body (opening f w) n b) ≡ maybe_body_leaves j b
    body_jumps f w n no_body = refl
    body_jumps f w n (one_body ss) = stmts_jumps f w n ss

    catch_jumps : (f : List ℕ → Option ℕ) (w : List ℕ → Bool) (n : ℕ) (c : tree.MaybeCatch) → catch_leaves j (open_catch (opening f w) n c) ≡ catch_leaves j c
    catch_jumps f w n no_catch = refl
    catch_jumps f w n (one_catch x ss) =
        let fields : List (List ℕ) = clause_fields x ss in
        boxed n fields _ ∙ stmts_jumps (field_inside fields (x ∷ []) n f) w (next_number fields n) ss

    cases_jumps : (f : List ℕ → Option ℕ) (w : List ℕ → Bool) (n : ℕ) (cs : tree.Cases) → cases_leave j (open_cases (opening f w) n cs) ≡ cases_leave j cs
    cases_jumps f w n no_cases = refl
    cases_jumps f w n (then_case e ss cs) =
        or_same (stmts_jumps f w (n + maybe_expr_scopes e) ss) (cases_jumps f w ((n + maybe_expr_scopes e) + stmts_scopes ss) cs)

  -- ---- functions

  declared_jumps : (b : Bool) (x : List ℕ) (d e : tree.Expr) → stmt_leaves j (if b then expr d else var_of x e) ≡ false
  declared_jumps true x d e = refl
  declared_jumps false x d e = refl

  declaration_jumps : (a : Around) (x : Option (List ℕ)) (e : tree.Expr) (ss : tree.Stmts) → leaves j ss ≡ false → leaves j (declaration a x e ss) ≡ false
  declaration_jumps a None e ss h = h
  declaration_jumps a (Some x) e ss h = or_same (declared_jumps (a.own x) x (assign None (field_or_name (a.fields x) x) e) e) h

  declarations_jumps : (f : List ℕ → Option ℕ) (w : List ℕ → Bool) (n : ℕ) (ss : tree.Stmts) → leaves j (open_declarations (opening f w) n ss) ≡ false
  declarations_jumps f w n no_stmts = refl
  declarations_jumps f w n (then_stmt (function (code x formals body)) ss) =
      declaration_jumps (opening f w) x _ _ (declarations_jumps f w (n + stmt_scopes (function (code x formals body))) ss)
  declarations_jumps f w n (then_stmt s ss) = declarations_jumps f w (n + stmt_scopes s) ss

  object_jumps : (n : ℕ) (valued fields : List (List ℕ)) (ss : tree.Stmts) → leaves j (scope_object n valued fields ss) ≡ leaves j ss
  object_jumps n valued [] ss = refl
  object_jumps n valued (x ∷ xs) ss = refl

  pub inside_jumps : (f : List ℕ → Option ℕ) (n : ℕ) (fields : List (List ℕ)) (own x : Option (List ℕ)) (formals : List (List ℕ)) (body : tree.Stmts)
      → leaves j (opened_inside f n fields own x formals body) ≡ leaves j body
  inside_jumps f n fields own x formals body =
      let inner : List ℕ → Option ℕ = field_inside fields (maybe_name own ++ bound_names (code x formals body)) n f in
      let ds : tree.Stmts = declarations_inside f n fields own x formals body in
      let ss : tree.Stmts = statements_inside f n fields own x formals body in
      object_jumps n (valued_names own (code x formals body)) fields (append ds ss)
      ∙ (leaves_append ds ss
      ∙ or_same (declarations_jumps inner (λ y. is_among y fields) (next_number fields n) body) (stmts_jumps inner (λ y. is_among y fields) (next_number fields n) body))
