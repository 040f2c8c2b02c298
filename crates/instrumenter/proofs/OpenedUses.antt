-- The uses that an opened piece leaves are those of the piece, where a use of a field is a read of its object.
use Rattle.std.proofs.Common.{◌≡◌, refl, ℕ, ◌+◌, Bool, true, false, not, ◌&&◌, ◌||◌, List, [], ◌∷◌, ◌++◌, Option, Some, None, if◌then◌else◌}
use Rattle.std.specs.Prelude.{is_some}
use Rattle.std.proofs.lemmas.Bool.{or_parts}
use Rattle.js_core.specs.Tree as tree
use Rattle.js_core.specs.Tree.{name, num, text, bool, null, this, list, literal, func, member, index, call, construct, unary, update, binary, logical_and, logical_or, conditional, assign, comma, no_exprs, then_expr, no_expr, one_expr, no_holes, then_hole, no_fields, then_field, code, var, function, expr, empty, block, if_else, do_while, while, for, for_in, continue, break, return, throw, try, switch, no_stmts, then_stmt, no_body, one_body, no_declarators, then_declarator, no_init, init_var, init_expr, no_catch, one_catch, no_cases, then_case}
use Rattle.js_grammar.specs.Syntax.{AreCases, AreDeclarators, AreExprs, AreFields, AreHoles, AreStmts, IsExpr, IsMaybeBody, IsMaybeCatch, IsMaybeExpr, IsStmt}
use Rattle.scope_analysis.specs.Names.{bound_names, declared_names, is_among, maybe_name, own_name, stmt_names}
use Rattle.scope_analysis.specs.Uses.{Use, assignment, cases_uses, catch_uses, declarators_uses, expr_uses, exprs_uses, fields_uses, holes_uses, init_uses, is_captured, leaving_function, maybe_expr_uses, maybe_stmts_uses, read, stmt_uses, stmts_uses, target_uses}
use Rattle.instrumenter.specs.Around.{Around, as_init, as_statements, assignments, before_for_in, callee, declaration, field_inside, field_or_name, is_changed, next_number, parameter, plain_names, single, var_of, var_where_any, without_this}
use Rattle.instrumenter.specs.Counting.{catch_scopes, expr_scopes, init_scopes, maybe_expr_scopes, stmt_scopes, stmts_scopes}
use Rattle.instrumenter.specs.Fields.{clause_fields, declaration_fields, expression_fields}
use Rattle.instrumenter.specs.Opening.{open_cases, open_catch, open_declarations, open_declarators, open_expr, open_exprs, open_fields, open_holes, open_maybe, open_maybe_body, open_stmt, open_stmts}
use Rattle.instrumenter.proofs.Each.{Each, each_both, each_parts}
use Rattle.instrumenter.proofs.Leaving.{Declaring, Leaving, Staying, Through, bound_after, clause_step, fields_inside, function_step, name_is_own, opened_as, own_is_name, uses_append}
use Rattle.instrumenter.proofs.OpenedNames.{opening}

-- ---- references and targets

module _ (P : Use → Type 0) where
  reference : (o : Option ℕ) (x : List ℕ) → P (opened_as o (read x)) → Each P (expr_uses (field_or_name o x))
  reference None x h = (h, tt)
  reference (Some k) x h = (h, tt)

  target : (o : Option ℕ) (x : List ℕ) → P (opened_as o (assignment x)) → Each P (target_uses (field_or_name o x) (expr_uses (field_or_name o x)))
  target None x h = (h, tt)
  target (Some k) x h = (h, tt)

  called : (o : Option ℕ) (e : tree.Expr) → Each P (expr_uses e) → Each P (expr_uses (without_this o e))
  called None e h = h
  called (Some k) e h = each_both P (expr_uses e) [] h tt

  callee_uses : (a : Around) (f e : tree.Expr) → Each P (expr_uses e) → Each P (expr_uses (callee a f e))
  callee_uses a (name x) e h = called (a.fields x) e h
  callee_uses a f e h = h

  target_opened : (f : List ℕ → Option ℕ) (w : List ℕ → Bool) (n : ℕ) (t : tree.Expr) → Each (Through P f) (target_uses t (expr_uses t))
      → (Each (Through P f) (expr_uses t) → Each P (expr_uses (open_expr (opening f w) n t)))
      → Each P (target_uses (open_expr (opening f w) n t) (expr_uses (open_expr (opening f w) n t)))
  target_opened f w n (name x) h inside = target (f x) x h.0
  target_opened f w n (func (code x formals body)) h inside = inside h
  target_opened f w n t h inside = inside h

  -- ---- variables

  none_used : (a : Around) (ds : tree.Declarators) → declarators_uses (plain_names a ds) ≡ []
  none_used a no_declarators = refl
  none_used a (then_declarator x e ds) = by (a.own x) (none_used a ds)
    where
      by : (b : Bool) → declarators_uses (plain_names a ds) ≡ [] → declarators_uses (if b then plain_names a ds else then_declarator x no_expr (plain_names a ds)) ≡ []
      by true e = e
      by false e = e

  where_any : (a : Around) (ds : tree.Declarators) (ss : tree.Stmts) → Each P (stmts_uses ss) → Each P (stmts_uses (var_where_any (plain_names a ds) ss))
  where_any a ds ss h = by (plain_names a ds) (none_used a ds)
    where
      by : (plain : tree.Declarators) → declarators_uses plain ≡ [] → Each P (stmts_uses (var_where_any plain ss))
      by no_declarators e = h
      by (then_declarator x e plain) none = rw (none) h

  statements : (es : tree.Exprs) → stmts_uses (as_statements es) ≡ exprs_uses es
  statements no_exprs = refl
  statements (then_expr e es) = rw (statements es) refl

  init : (es : tree.Exprs) → Each P (exprs_uses es) → Each P (init_uses (as_init es))
  init no_exprs h = tt
  init (then_expr e no_exprs) h = (each_parts P (expr_uses e) [] h).0
  init (then_expr e (then_expr d es)) h = h

  var_opened : (a : Around) (ds opened : tree.Declarators) (b : Bool) (es : tree.Exprs) → is_changed a ds ≡ b → Each P (exprs_uses es)
      → (is_changed a ds ≡ false → Each P (declarators_uses opened))
      → Each P (stmts_uses (if b then var_where_any (plain_names a ds) (as_statements es) else single (var opened)))
  var_opened a ds opened true es e h k = where_any a ds (as_statements es) (rw (statements es) h)
  var_opened a ds opened false es e h k = each_both P (declarators_uses opened) [] (k e) tt

  loop : (i : tree.ForInit) (t s : tree.MaybeExpr) (body : tree.Stmts) → Each P (init_uses i) → Each P (maybe_expr_uses t ++ (maybe_expr_uses s ++ stmts_uses body))
      → Each P (stmts_uses (single (for i t s body)))
  loop i t s body h k = each_both P _ [] (each_both P (init_uses i) (maybe_expr_uses t ++ (maybe_expr_uses s ++ stmts_uses body)) h k) tt

  for_var_opened : (a : Around) (ds opened : tree.Declarators) (b : Bool) (es : tree.Exprs) (t s : tree.MaybeExpr) (body : tree.Stmts) → is_changed a ds ≡ b → Each P (exprs_uses es)
      → (is_changed a ds ≡ false → Each P (declarators_uses opened))
      → Each P (maybe_expr_uses t ++ (maybe_expr_uses s ++ stmts_uses body))
      → Each P (stmts_uses (if b then var_where_any (plain_names a ds) (single (for (if b then as_init es else init_var opened) t s body))
      else single (for (if b then as_init es else init_var opened) t s body)))
  for_var_opened a ds opened true es t s body e h k r = where_any a ds (single (for (as_init es) t s body)) (loop (as_init es) t s body (init es h) r)
  for_var_opened a ds opened false es t s body e h k r = loop (init_var opened) t s body (k e) r

  before : (a : Around) (declared : Bool) (t : tree.Expr) (ss : tree.Stmts) → Each P (stmts_uses ss) → Each P (stmts_uses (before_for_in a declared t ss))
  before a true (name x) ss h = by (is_some (a.fields x) && not (a.own x))
    where
      by : (b : Bool) → Each P (stmts_uses (if b then then_stmt (var (then_declarator x no_expr no_declarators)) ss else ss))
      by true = h
      by false = h
  before a true t ss h = h
  before a false t ss h = h

  unchanged : (o : Option ℕ) (x : List ℕ) → is_some o ≡ false → P (opened_as o (assignment x)) → P (assignment x)
  unchanged None x e h = h
  unchanged (Some k) x e h = cc e

  declared_opened : (f : List ℕ → Option ℕ) (w : List ℕ → Bool) (x : List ℕ) (e : tree.Expr) (b : Bool) → w x ≡ b → Declaring P f w x → Each P (expr_uses e)
      → Each P (stmt_uses (if b then expr (assign None (field_or_name (f x) x) e) else var_of x e))
  declared_opened f w x e true is h k = each_both P _ (expr_uses e) (target (f x) x (h.0 is)) k
  declared_opened f w x e false is h k = each_both P (assignment x ∷ expr_uses e) [] (h.1 is, k) tt

  declaration_opened : (f : List ℕ → Option ℕ) (w : List ℕ → Bool) (x : Option (List ℕ)) (e : tree.Expr) (ss : tree.Stmts) → Each (Declaring P f w) (maybe_name x) → Each P (expr_uses e)
      → Each P (stmts_uses ss) → Each P (stmts_uses (declaration (opening f w) x e ss))
  declaration_opened f w None e ss h k r = r
  declaration_opened f w (Some x) e ss h k r = each_both P _ (stmts_uses ss) (declared_opened f w x e (w x) refl h.0 k) r

-- three pieces behind one another
three : (P Q : Use → Type 0) (a b c d e f : List Use) → (Each Q a → Each P d) → (Each Q b → Each P e) → (Each Q c → Each P f)
    → Each Q (a ++ (b ++ c)) → Each P (d ++ (e ++ f))
three P Q a b c d e f one two last h =
    let parts = each_parts Q a (b ++ c) h in
    let more = each_parts Q b c parts.1 in
    each_both P d (e ++ f) (one parts.0) (each_both P e f (two more.0) (last more.1))

-- ---- pieces

mutual
  pub expr_opened : (P : Use → Type 0) (f : List ℕ → Option ℕ) (w : List ℕ → Bool) (n : ℕ) (e : tree.Expr) → IsExpr e → Each (Through P f) (expr_uses e) → Each P (expr_uses (open_expr (opening f w) n e))
  expr_opened P f w n (name x) is h = reference P (f x) x h.0
  expr_opened P f w n (num k) is h = tt
  expr_opened P f w n (text x) is h = tt
  expr_opened P f w n (bool b) is h = tt
  expr_opened P f w n null is h = tt
  expr_opened P f w n this is h = tt
  expr_opened P f w n (list es) is h = holes_opened P f w n es is h
  expr_opened P f w n (literal fs) is h = fields_opened P f w n fs is h
  expr_opened P f w n (func (code x formals body)) is h =
      let c : tree.Code = code x formals body in
      let fields : List (List ℕ) = expression_fields c in
      let own : Option (List ℕ) = own_name c in
      let Q : Use → Type 0 = Leaving P (bound_after f n fields own x x formals body is.2) in
      let inner : List ℕ → Option ℕ = fields_inside f n fields own x formals body in
      function_step f n fields own x x formals body is.2 P (maybe_name x ++ bound_names c) (name_is_own x formals body) (own_is_name x formals body)
      (declarations_opened Q inner (λ y. is_among y fields) (next_number fields n) body is.2)
      (stmts_opened Q inner (λ y. is_among y fields) (next_number fields n) true body is.2) h
  expr_opened P f w n (member e x) is h = expr_opened P f w n e is.0 h
  expr_opened P f w n (index d e) is h =
      let parts = each_parts (Through P f) (expr_uses d) (expr_uses e) h in
      each_both P _ _ (expr_opened P f w n d is.0 parts.0) (expr_opened P f w (n + expr_scopes d) e is.1 parts.1)
  expr_opened P f w n (call g es) is h =
      let parts = each_parts (Through P f) (expr_uses g) (exprs_uses es) h in
      each_both P _ _ (callee_uses P (opening f w) g (open_expr (opening f w) n g) (expr_opened P f w n g is.0 parts.0)) (exprs_opened P f w (n + expr_scopes g) es is.1 parts.1)
  expr_opened P f w n (construct g es) is h =
      let parts = each_parts (Through P f) (expr_uses g) (exprs_uses es) h in
      each_both P _ _ (expr_opened P f w n g is.0 parts.0) (exprs_opened P f w (n + expr_scopes g) es is.1 parts.1)
  expr_opened P f w n (unary op e) is h = expr_opened P f w n e is h
  expr_opened P f w n (update up prefix e) is h = target_opened P f w n e h (expr_opened P f w n e is)
  expr_opened P f w n (binary op d e) is h =
      let parts = each_parts (Through P f) (expr_uses d) (expr_uses e) h in
      each_both P _ _ (expr_opened P f w n d is.0 parts.0) (expr_opened P f w (n + expr_scopes d) e is.1 parts.1)
  expr_opened P f w n (logical_and d e) is h =
      let parts = each_parts (Through P f) (expr_uses d) (expr_uses e) h in
      each_both P _ _ (expr_opened P f w n d is.0 parts.0) (expr_opened P f w (n + expr_scopes d) e is.1 parts.1)
  expr_opened P f w n (logical_or d e) is h =
      let parts = each_parts (Through P f) (expr_uses d) (expr_uses e) h in
      each_both P _ _ (expr_opened P f w n d is.0 parts.0) (expr_opened P f w (n + expr_scopes d) e is.1 parts.1)
  expr_opened P f w n (conditional c d e) is h =
      let parts = each_parts (Through P f) (expr_uses c) (expr_uses d ++ expr_uses e) h in
      let more = each_parts (Through P f) (expr_uses d) (expr_uses e) parts.1 in
      each_both P _ _ (expr_opened P f w n c is.0 parts.0)
      (each_both P _ _ (expr_opened P f w (n + expr_scopes c) d is.1 more.0) (expr_opened P f w ((n + expr_scopes c) + expr_scopes d) e is.2 more.1))
  expr_opened P f w n (assign op d e) is h =
      let parts = each_parts (Through P f) (target_uses d (expr_uses d)) (expr_uses e) h in
      each_both P _ _ (target_opened P f w n d parts.0 (expr_opened P f w n d is.1)) (expr_opened P f w (n + expr_scopes d) e is.2 parts.1)
  expr_opened P f w n (comma es) is h = exprs_opened P f w n es is.1 h

  pub exprs_opened : (P : Use → Type 0) (f : List ℕ → Option ℕ) (w : List ℕ → Bool) (n : ℕ) (es : tree.Exprs) → AreExprs es → Each (Through P f) (exprs_uses es) → Each P (exprs_uses (open_exprs (opening f w) n es))
  exprs_opened P f w n no_exprs is h = tt
  exprs_opened P f w n (then_expr e es) is h =
      let parts = each_parts (Through P f) (expr_uses e) (exprs_uses es) h in
      each_both P _ _ (expr_opened P f w n e is.0 parts.0) (exprs_opened P f w (n + expr_scopes e) es is.1 parts.1)

  pub maybe_opened : (P : Use → Type 0) (f : List ℕ → Option ℕ) (w : List ℕ → Bool) (n : ℕ) (e : tree.MaybeExpr) → IsMaybeExpr e → Each (Through P f) (maybe_expr_uses e) → Each P (maybe_expr_uses (open_maybe (opening f w) n e))
  maybe_opened P f w n no_expr is h = tt
  maybe_opened P f w n (one_expr e) is h = expr_opened P f w n e is h

  pub holes_opened : (P : Use → Type 0) (f : List ℕ → Option ℕ) (w : List ℕ → Bool) (n : ℕ) (es : tree.Holes) → AreHoles es → Each (Through P f) (holes_uses es) → Each P (holes_uses (open_holes (opening f w) n es))
  holes_opened P f w n no_holes is h = tt
  holes_opened P f w n (then_hole e es) is h =
      let parts = each_parts (Through P f) (maybe_expr_uses e) (holes_uses es) h in
      each_both P _ _ (maybe_opened P f w n e is.0 parts.0) (holes_opened P f w (n + maybe_expr_scopes e) es is.1 parts.1)

  pub fields_opened : (P : Use → Type 0) (f : List ℕ → Option ℕ) (w : List ℕ → Bool) (n : ℕ) (fs : tree.Fields) → AreFields fs → Each (Through P f) (fields_uses fs) → Each P (fields_uses (open_fields (opening f w) n fs))
  fields_opened P f w n no_fields is h = tt
  fields_opened P f w n (then_field x e fs) is h =
      let parts = each_parts (Through P f) (expr_uses e) (fields_uses fs) h in
      each_both P _ _ (expr_opened P f w n e is.1 parts.0) (fields_opened P f w (n + expr_scopes e) fs is.2 parts.1)

  -- the declarations at the start of a function
  pub declarations_opened : (P : Use → Type 0) (f : List ℕ → Option ℕ) (w : List ℕ → Bool) (n : ℕ) (ss : tree.Stmts) → AreStmts true ss → Each (Declaring P f w) (declared_names ss)
      → Each (Through P f) (stmts_uses ss) → Each P (stmts_uses (open_declarations (opening f w) n ss))
  declarations_opened P f w n no_stmts is d h = tt
  declarations_opened P f w n (then_stmt (function (code x formals body)) ss) is d h =
      let c : tree.Code = code x formals body in
      let fields : List (List ℕ) = declaration_fields c in
      let names = each_parts (Declaring P f w) (maybe_name x) (declared_names ss) d in
      let parts = each_parts (Through P f) (leaving_function (bound_names c) (stmts_uses body)) (stmts_uses ss) h in
      let Q : Use → Type 0 = Leaving P (bound_after f n fields None x None formals body is.0.1.2) in
      let inner : List ℕ → Option ℕ = fields_inside f n fields None x formals body in
      declaration_opened P f w x _ _ names.0
      (function_step f n fields None x None formals body is.0.1.2 P (bound_names c) (λ y e. e) (λ y e. e)
      (declarations_opened Q inner (λ y. is_among y fields) (next_number fields n) body is.0.1.2)
      (stmts_opened Q inner (λ y. is_among y fields) (next_number fields n) true body is.0.1.2) parts.0)
      (declarations_opened P f w (n + stmt_scopes (function c)) ss is.1 names.1 parts.1)
  declarations_opened P f w n (then_stmt s ss) is d h =
      declarations_opened P f w (n + stmt_scopes s) ss is.1 (each_parts (Declaring P f w) (stmt_names s) (declared_names ss) d).1
      (each_parts (Through P f) (stmt_uses s) (stmts_uses ss) h).1

  pub stmt_opened : (P : Use → Type 0) (f : List ℕ → Option ℕ) (w : List ℕ → Bool) (n : ℕ) (top : Bool) (s : tree.Stmt) → IsStmt top s → Each (Through P f) (stmt_uses s) → Each P (stmts_uses (open_stmt (opening f w) n s))
  stmt_opened P f w n top (var ds) is h =
      var_opened P (opening f w) ds _ (is_changed (opening f w) ds) _ refl (assignments_opened P f w n ds is.1 h) (λ e. declarators_opened P f w n ds is.1 e h)
  stmt_opened P f w n top (function c) is h = tt
  stmt_opened P f w n top (expr e) is h = each_both P _ [] (expr_opened P f w n e is h) tt
  stmt_opened P f w n top empty is h = tt
  stmt_opened P f w n top (block ss) is h = each_both P _ [] (stmts_opened P f w n false ss is h) tt
  stmt_opened P f w n top (if_else e a b) is h =
      let parts = each_parts (Through P f) (expr_uses e) (stmts_uses a ++ maybe_stmts_uses b) h in
      let more = each_parts (Through P f) (stmts_uses a) (maybe_stmts_uses b) parts.1 in
      each_both P _ [] (each_both P _ _ (expr_opened P f w n e is.0 parts.0)
      (each_both P _ _ (stmts_opened P f w (n + expr_scopes e) false a is.1 more.0) (body_opened P f w ((n + expr_scopes e) + stmts_scopes a) b is.2 more.1))) tt
  stmt_opened P f w n top (do_while body e) is h =
      let parts = each_parts (Through P f) (stmts_uses body) (expr_uses e) h in
      each_both P _ [] (each_both P _ _ (stmts_opened P f w n false body is.0 parts.0) (expr_opened P f w (n + stmts_scopes body) e is.1 parts.1)) tt
  stmt_opened P f w n top (while e body) is h =
      let parts = each_parts (Through P f) (expr_uses e) (stmts_uses body) h in
      each_both P _ [] (each_both P _ _ (expr_opened P f w n e is.0 parts.0) (stmts_opened P f w (n + expr_scopes e) false body is.1 parts.1)) tt
  stmt_opened P f w n top (for no_init t s body) is h = loop P no_init (open_maybe (opening f w) (n + 0) t) (open_maybe (opening f w) ((n + 0) + maybe_expr_scopes t) s)
      (open_stmts (opening f w) (((n + 0) + maybe_expr_scopes t) + maybe_expr_scopes s) body) tt (three P (Through P f) (maybe_expr_uses t) (maybe_expr_uses s) (stmts_uses body) _ _ _ (maybe_opened P f w (n + 0) t is.1)
      (maybe_opened P f w ((n + 0) + maybe_expr_scopes t) s is.2) (stmts_opened P f w (((n + 0) + maybe_expr_scopes t) + maybe_expr_scopes s) false body is.3) h)
  stmt_opened P f w n top (for (init_var ds) t s body) is h =
      let parts = each_parts (Through P f) (declarators_uses ds) (maybe_expr_uses t ++ (maybe_expr_uses s ++ stmts_uses body)) h in
      for_var_opened P (opening f w) ds _ (is_changed (opening f w) ds) _ _ _ _ refl (assignments_opened P f w n ds is.0.1 parts.0)
      (λ e. declarators_opened P f w n ds is.0.1 e parts.0)
      (three P (Through P f) (maybe_expr_uses t) (maybe_expr_uses s) (stmts_uses body) _ _ _ (maybe_opened P f w (n + init_scopes (init_var ds)) t is.1)
      (maybe_opened P f w ((n + init_scopes (init_var ds)) + maybe_expr_scopes t) s is.2) (stmts_opened P f w (((n + init_scopes (init_var ds)) + maybe_expr_scopes t) + maybe_expr_scopes s) false body is.3) parts.1)
  stmt_opened P f w n top (for (init_expr e) t s body) is h =
      let parts = each_parts (Through P f) (expr_uses e) (maybe_expr_uses t ++ (maybe_expr_uses s ++ stmts_uses body)) h in
      loop P (init_expr (open_expr (opening f w) n e)) (open_maybe (opening f w) (n + expr_scopes e) t) (open_maybe (opening f w) ((n + expr_scopes e) + maybe_expr_scopes t) s)
      (open_stmts (opening f w) (((n + expr_scopes e) + maybe_expr_scopes t) + maybe_expr_scopes s) body)
      (expr_opened P f w n e is.0 parts.0) (three P (Through P f) (maybe_expr_uses t) (maybe_expr_uses s) (stmts_uses body) _ _ _ (maybe_opened P f w (n + expr_scopes e) t is.1)
      (maybe_opened P f w ((n + expr_scopes e) + maybe_expr_scopes t) s is.2) (stmts_opened P f w (((n + expr_scopes e) + maybe_expr_scopes t) + maybe_expr_scopes s) false body is.3) parts.1)
  stmt_opened P f w n top (for_in declared t e body) is h =
      let parts = each_parts (Through P f) (target_uses t (expr_uses t)) (expr_uses e ++ stmts_uses body) h in
      let more = each_parts (Through P f) (expr_uses e) (stmts_uses body) parts.1 in
      before P (opening f w) declared t _
      (each_both P _ [] (each_both P _ _ (target_opened P f w n t parts.0 (expr_opened P f w n t is.1))
      (each_both P _ _ (expr_opened P f w (n + expr_scopes t) e is.2 more.0) (stmts_opened P f w ((n + expr_scopes t) + expr_scopes e) false body is.3 more.1))) tt)
  stmt_opened P f w n top continue is h = tt
  stmt_opened P f w n top break is h = tt
  stmt_opened P f w n top (return e) is h = each_both P _ [] (maybe_opened P f w n e is h) tt
  stmt_opened P f w n top (throw e) is h = each_both P _ [] (expr_opened P f w n e is h) tt
  stmt_opened P f w n top (try b c l) is h =
      let parts = each_parts (Through P f) (stmts_uses b) (catch_uses c ++ maybe_stmts_uses l) h in
      let more = each_parts (Through P f) (catch_uses c) (maybe_stmts_uses l) parts.1 in
      each_both P _ [] (each_both P _ _ (stmts_opened P f w n false b is.1 parts.0)
      (each_both P _ _ (catch_opened P f w (n + stmts_scopes b) c is.2 more.0) (body_opened P f w ((n + stmts_scopes b) + catch_scopes c) l is.3 more.1))) tt
  stmt_opened P f w n top (switch e cs) is h =
      let parts = each_parts (Through P f) (expr_uses e) (cases_uses cs) h in
      each_both P _ [] (each_both P _ _ (expr_opened P f w n e is.0 parts.0) (cases_opened P f w (n + expr_scopes e) cs is.2 parts.1)) tt

  pub stmts_opened : (P : Use → Type 0) (f : List ℕ → Option ℕ) (w : List ℕ → Bool) (n : ℕ) (top : Bool) (ss : tree.Stmts) → AreStmts top ss → Each (Through P f) (stmts_uses ss) → Each P (stmts_uses (open_stmts (opening f w) n ss))
  stmts_opened P f w n top no_stmts is h = tt
  stmts_opened P f w n top (then_stmt s ss) is h =
      let parts = each_parts (Through P f) (stmt_uses s) (stmts_uses ss) h in
      rw (uses_append (open_stmt (opening f w) n s) (open_stmts (opening f w) (n + stmt_scopes s) ss))
      (each_both P _ _ (stmt_opened P f w n top s is.0 parts.0) (stmts_opened P f w (n + stmt_scopes s) top ss is.1 parts.1))

  pub body_opened : (P : Use → Type 0) (f : List ℕ → Option ℕ) (w : List ℕ → Bool) (n : ℕ) (b : tree.MaybeStmts) → IsMaybeBody b → Each (Through P f) (maybe_stmts_uses b) → Each P (maybe_stmts_uses (open_maybe_body (opening f w) n b))
  body_opened P f w n no_body is h = tt
  body_opened P f w n (one_body ss) is h = stmts_opened P f w n false ss is h

  -- the assignments that initialisers become
  assignments_opened : (P : Use → Type 0) (f : List ℕ → Option ℕ) (w : List ℕ → Bool) (n : ℕ) (ds : tree.Declarators) → AreDeclarators ds → Each (Through P f) (declarators_uses ds)
      → Each P (exprs_uses (assignments (opening f w) (open_declarators (opening f w) n ds)))
  assignments_opened P f w n no_declarators is h = tt
  assignments_opened P f w n (then_declarator x no_expr ds) is h = assignments_opened P f w (n + 0) ds is.2 h
  assignments_opened P f w n (then_declarator x (one_expr e) ds) is h =
      let parts = each_parts (Through P f) (expr_uses e) (declarators_uses ds) h.1 in
      each_both P _ _ (each_both P _ _ (target P (f x) x h.0) (expr_opened P f w n e is.1 parts.0)) (assignments_opened P f w (n + expr_scopes e) ds is.2 parts.1)

  -- a `var` that stays
  declarators_opened : (P : Use → Type 0) (f : List ℕ → Option ℕ) (w : List ℕ → Bool) (n : ℕ) (ds : tree.Declarators) → AreDeclarators ds → is_changed (opening f w) ds ≡ false
      → Each (Through P f) (declarators_uses ds) → Each P (declarators_uses (open_declarators (opening f w) n ds))
  declarators_opened P f w n no_declarators is e h = tt
  declarators_opened P f w n (then_declarator x no_expr ds) is e h =
      declarators_opened P f w (n + 0) ds is.2 (or_parts (w x) (is_changed (opening f w) ds) e).1 h
  declarators_opened P f w n (then_declarator x (one_expr d) ds) is e h =
      let parts = each_parts (Through P f) (expr_uses d) (declarators_uses ds) h.1 in
      let same = or_parts (is_some (f x)) (is_changed (opening f w) ds) (or_parts (w x) (is_some (f x) || is_changed (opening f w) ds) e).1 in
      (unchanged P (f x) x same.0 h.0, each_both P _ _ (expr_opened P f w n d is.1 parts.0) (declarators_opened P f w (n + expr_scopes d) ds is.2 same.1 parts.1))

  catch_opened : (P : Use → Type 0) (f : List ℕ → Option ℕ) (w : List ℕ → Bool) (n : ℕ) (c : tree.MaybeCatch) → IsMaybeCatch c → Each (Through P f) (catch_uses c) → Each P (catch_uses (open_catch (opening f w) n c))
  catch_opened P f w n no_catch is h = tt
  catch_opened P f w n (one_catch x ss) is h =
      let fields : List (List ℕ) = clause_fields x ss in
      clause_step P f n x (is_captured x (stmts_uses ss)) (stmts_uses ss) _
      (stmts_opened (Staying P (parameter n fields x)) (field_inside fields (x ∷ []) n f) w (next_number fields n) false ss is.1) h

  cases_opened : (P : Use → Type 0) (f : List ℕ → Option ℕ) (w : List ℕ → Bool) (n : ℕ) (cs : tree.Cases) → AreCases cs → Each (Through P f) (cases_uses cs) → Each P (cases_uses (open_cases (opening f w) n cs))
  cases_opened P f w n no_cases is h = tt
  cases_opened P f w n (then_case e ss cs) is h =
      let parts = each_parts (Through P f) (maybe_expr_uses e) (stmts_uses ss ++ cases_uses cs) h in
      let more = each_parts (Through P f) (stmts_uses ss) (cases_uses cs) parts.1 in
      each_both P _ _ (maybe_opened P f w n e is.0 parts.0)
      (each_both P _ _ (stmts_opened P f w (n + maybe_expr_scopes e) false ss is.1 more.0) (cases_opened P f w ((n + maybe_expr_scopes e) + stmts_scopes ss) cs is.2 more.1))
