-- No node of an opened piece breaks an early rule, is a scope out of form, or declares a function.
use Rattle.std.proofs.Common.{◌≡◌, refl, ap, ◌∙◌, ℕ, ◌+◌, Bool, true, false, not, ◌||◌, List, [], ◌∷◌, Option, None}
use Rattle.std.specs.List.{list_any}
use Rattle.std.proofs.lemmas.Bool.{or_from, or_parts}
use Rattle.js_core.specs.Tree as tree
use Rattle.js_core.specs.Tree.{name, num, text, bool, null, this, list, literal, func, member, index, call, construct, unary, update, binary, logical_and, logical_or, conditional, assign, comma, no_exprs, then_expr, no_expr, one_expr, no_holes, then_hole, no_fields, then_field, code, var, function, expr, empty, block, if_else, do_while, while, for, for_in, continue, break, return, throw, try, switch, no_stmts, then_stmt, no_body, one_body, no_declarators, then_declarator, no_init, init_var, init_expr, no_catch, one_catch, no_cases, then_case}
use Rattle.js_grammar.specs.Syntax.{AreCases, AreDeclarators, AreExprs, AreFields, AreHoles, AreStmts, IsExpr, IsMaybeBody, IsMaybeCatch, IsMaybeExpr, IsStmt}
use Rattle.early_rules.specs.EarlyRules.{is_target, repeats_name}
use Rattle.scope_analysis.specs.Identifiers.{is_restricted}
use Rattle.scope_analysis.specs.Names.{declarator_names, has_repeat, is_among, maybe_name, own_name}
use Rattle.scope_analysis.specs.Nodes.{cases_any, catch_any, declarators_any, expr_any, expression, exprs_any, fields_any, holes_any, maybe_expr_any, maybe_stmts_any, statement, stmt_any, stmts_any}
use Rattle.instrumenter.specs.Around.{assignments, field_inside, is_changed, next_number, valued_names}
use Rattle.instrumenter.specs.Counting.{catch_scopes, declarators_scopes, expr_scopes, maybe_expr_scopes, stmt_scopes, stmts_scopes}
use Rattle.instrumenter.specs.Fields.{clause_fields, declaration_fields, expression_fields}
use Rattle.instrumenter.specs.Opening.{open_cases, open_catch, open_declarations, open_declarators, open_expr, open_exprs, open_fields, open_holes, open_maybe, open_maybe_body, open_stmt, open_stmts}
use Rattle.instrumenter.proofs.Each.{Among}
use Rattle.instrumenter.proofs.FormScopes.{after, expression_after}
use Rattle.instrumenter.proofs.Leaving.{declarations_inside, fields_inside, own_is_name, statements_inside}
use Rattle.instrumenter.proofs.NodePieces.{any_append, assigned_node, before_nodes, callee_node, clause_nodes, declaration_nodes, declared_node, expression_node, for_var_nodes, inner, kept, kept_declaration, kept_expression, loop_node, object_nodes, pair, reference_node, same_fields, still_no_name, still_target, unary_node, valued_free, var_nodes}
use Rattle.instrumenter.proofs.OnceNames.{fields_apart}
use Rattle.instrumenter.proofs.OpenedNames.{opened_declarator_names, opening}

pub none_named : (x : Option (List ℕ)) (y : List ℕ) → Among y [] → Among y (maybe_name x)
none_named x y there = cc there

mutual
  pub expr_nodes : (f : List ℕ → Option ℕ) (w : List ℕ → Bool) (n : ℕ) (c d : Bool) (e : tree.Expr) → IsExpr e → expr_any kept c e ≡ false → expr_any inner d (open_expr (opening f w) n e) ≡ false
  expr_nodes f w n c d (name x) is h = reference_node d (f x) x (or_parts (is_restricted x) false (or_parts (is_restricted x || false) _ h).0).0
  expr_nodes f w n c d (num k) is h = refl
  expr_nodes f w n c d (text x) is h = refl
  expr_nodes f w n c d (bool b) is h = refl
  expr_nodes f w n c d null is h = refl
  expr_nodes f w n c d this is h = refl
  expr_nodes f w n c d (list es) is h = holes_nodes f w n es is h
  expr_nodes f w n c d (literal fs) is h =
      pair {a = repeats_name fs || false} {b = repeats_name (open_fields (opening f w) n fs) || false}
      (λ e. or_from _ _ (ap has_repeat (same_fields (opening f w) n fs) ∙ (or_parts (repeats_name fs) false e).0) refl) (fields_nodes f w n fs is) h
  expr_nodes f w n c d (func (code x formals body)) is h =
      let own : Option (List ℕ) = own_name (code x formals body) in
      let fields : List (List ℕ) = expression_fields (code x formals body) in
      let inside : List ℕ → Option ℕ = fields_inside f n fields own x formals body in
      let facts = kept_expression c x formals body h in
      let rest : stmts_any kept body ≡ false = (or_parts (kept (expression c (func (code x formals body)))) (stmts_any kept body) h).1 in
      or_from (inner (expression d (func (code x formals (expression_after f n x formals body))))) (stmts_any inner (expression_after f n x formals body))
      (expression_node f n d x formals body is.2 facts)
      (object_nodes n (valued_names own (code x formals body)) fields _ (valued_free own x formals body facts.0 (own_is_name x formals body)) (fields_apart own x formals body)
      (any_append inner (declarations_inside f n fields own x formals body) (statements_inside f n fields own x formals body)
      (declarations_nodes inside (λ y. is_among y fields) (next_number fields n) body is.2 rest)
      (stmts_nodes inside (λ y. is_among y fields) (next_number fields n) true body is.2 rest)))
  expr_nodes f w n c d (member e x) is h = expr_nodes f w n false false e is.0 h
  expr_nodes f w n c d (index a b) is h = pair (expr_nodes f w (n) false false a is.0) (expr_nodes f w (n + expr_scopes a) false false b is.1) h
  expr_nodes f w n c d (call g es) is h = pair (λ e. callee_node (opening f w) g (open_expr (opening f w) n g) (λ k. expr_nodes f w n true k g is.0 e)) (exprs_nodes f w (n + expr_scopes g) es is.1) h
  expr_nodes f w n c d (construct g es) is h = pair (expr_nodes f w n false false g is.0) (exprs_nodes f w (n + expr_scopes g) es is.1) h
  expr_nodes f w n c d (unary op e) is h = pair (unary_node c d op e (open_expr (opening f w) n e) (still_no_name (opening f w) n e)) (expr_nodes f w n false false e is) h
  expr_nodes f w n c d (update up prefix e) is h = pair (λ k. or_from _ _ (still_target (opening f w) n e (or_parts _ false k).0) refl) (expr_nodes f w n false false e is) h
  expr_nodes f w n c d (binary op a b) is h = pair (expr_nodes f w (n) false false a is.0) (expr_nodes f w (n + expr_scopes a) false false b is.1) h
  expr_nodes f w n c d (logical_and a b) is h = pair (expr_nodes f w (n) false false a is.0) (expr_nodes f w (n + expr_scopes a) false false b is.1) h
  expr_nodes f w n c d (logical_or a b) is h = pair (expr_nodes f w (n) false false a is.0) (expr_nodes f w (n + expr_scopes a) false false b is.1) h
  expr_nodes f w n c d (conditional a b e) is h = pair (expr_nodes f w (n) false false a is.0) (pair (expr_nodes f w (n + expr_scopes a) false false b is.1) (expr_nodes f w ((n + expr_scopes a) + expr_scopes b) false false e is.2)) h
  expr_nodes f w n c d (assign op a b) is h = pair (λ k. or_from _ _ (still_target (opening f w) n a (or_parts _ false k).0) refl) (pair (expr_nodes f w (n) false false a is.1) (expr_nodes f w (n + expr_scopes a) false false b is.2)) h
  expr_nodes f w n c d (comma es) is h = exprs_nodes f w n es is.1 h

  pub exprs_nodes : (f : List ℕ → Option ℕ) (w : List ℕ → Bool) (n : ℕ) (es : tree.Exprs) → AreExprs es → exprs_any kept es ≡ false → exprs_any inner (open_exprs (opening f w) n es) ≡ false
  exprs_nodes f w n no_exprs is h = refl
  exprs_nodes f w n (then_expr e es) is h = pair (expr_nodes f w (n) false false e is.0) (exprs_nodes f w (n + expr_scopes e) es is.1) h

  pub maybe_nodes : (f : List ℕ → Option ℕ) (w : List ℕ → Bool) (n : ℕ) (e : tree.MaybeExpr) → IsMaybeExpr e → maybe_expr_any kept e ≡ false → maybe_expr_any inner (open_maybe (opening f w) n e) ≡ false
  maybe_nodes f w n no_expr is h = refl
  maybe_nodes f w n (one_expr e) is h = expr_nodes f w n false false e is h

  pub holes_nodes : (f : List ℕ → Option ℕ) (w : List ℕ → Bool) (n : ℕ) (es : tree.Holes) → AreHoles es → holes_any kept es ≡ false → holes_any inner (open_holes (opening f w) n es) ≡ false
  holes_nodes f w n no_holes is h = refl
  holes_nodes f w n (then_hole e es) is h = pair (maybe_nodes f w n e is.0) (holes_nodes f w (n + maybe_expr_scopes e) es is.1) h

  pub fields_nodes : (f : List ℕ → Option ℕ) (w : List ℕ → Bool) (n : ℕ) (fs : tree.Fields) → AreFields fs → fields_any kept fs ≡ false → fields_any inner (open_fields (opening f w) n fs) ≡ false
  fields_nodes f w n no_fields is h = refl
  fields_nodes f w n (then_field x e fs) is h = pair (expr_nodes f w (n) false false e is.1) (fields_nodes f w (n + expr_scopes e) fs is.2) h

  pub declarations_nodes : (f : List ℕ → Option ℕ) (w : List ℕ → Bool) (n : ℕ) (ss : tree.Stmts) → AreStmts true ss → stmts_any kept ss ≡ false → stmts_any inner (open_declarations (opening f w) n ss) ≡ false
  declarations_nodes f w n no_stmts is h = refl
  declarations_nodes f w n (then_stmt (function (code x formals body)) ss) is h =
      let fields : List (List ℕ) = declaration_fields (code x formals body) in
      let inside : List ℕ → Option ℕ = fields_inside f n fields None x formals body in
      let parts : (stmt_any kept (function (code x formals body)) ≡ false) × (stmts_any kept ss ≡ false) = or_parts _ _ h in
      let facts = kept_declaration x formals body parts.0 in
      let rest : stmts_any kept body ≡ false = (or_parts (kept (statement (function (code x formals body)))) (stmts_any kept body) parts.0).1 in
      declaration_nodes (opening f w) x (func (code None formals (after f n None x formals body))) _ facts.name_unrestricted
      (or_from (inner (expression false (func (code None formals (after f n None x formals body))))) (stmts_any inner (after f n None x formals body))
      (declared_node f n false x formals body is.0.1.2 facts)
      (object_nodes n (valued_names None (code x formals body)) fields _ (valued_free None x formals body facts (λ y there. none_named x y there)) (fields_apart None x formals body)
      (any_append inner (declarations_inside f n fields None x formals body) (statements_inside f n fields None x formals body)
      (declarations_nodes inside (λ y. is_among y fields) (next_number fields n) body is.0.1.2 rest)
      (stmts_nodes inside (λ y. is_among y fields) (next_number fields n) true body is.0.1.2 rest))))
      (declarations_nodes f w (n + stmt_scopes (function (code x formals body))) ss is.1 parts.1)
  declarations_nodes f w n (then_stmt s ss) is h = declarations_nodes f w (n + stmt_scopes s) ss is.1 (or_parts (stmt_any kept s) (stmts_any kept ss) h).1

  pub stmt_nodes : (f : List ℕ → Option ℕ) (w : List ℕ → Bool) (n : ℕ) (top : Bool) (s : tree.Stmt) → IsStmt top s → stmt_any kept s ≡ false → stmts_any inner (open_stmt (opening f w) n s) ≡ false
  stmt_nodes f w n top (var ds) is h =
      let restricted : Bool = list_any is_restricted (declarator_names ds) in
      let free : restricted ≡ false = (or_parts restricted _ (or_parts _ (declarators_any kept ds) h).0).0 in
      let more : declarators_any kept ds ≡ false = (or_parts _ (declarators_any kept ds) h).1 in
      var_nodes (opening f w) ds _ (is_changed (opening f w) ds) _ free (assignments_nodes f w n ds is.1 free more)
      (ap (λ xs. list_any is_restricted xs) (opened_declarator_names (opening f w) n ds) ∙ free) (declarators_nodes f w n ds is.1 more)
  stmt_nodes f w n top (function e) is h = refl
  stmt_nodes f w n top (expr e) is h = or_from _ _ (expr_nodes f w n false false e is h) refl
  stmt_nodes f w n top empty is h = refl
  stmt_nodes f w n top (block ss) is h = or_from _ _ (stmts_nodes f w n false ss is h) refl
  stmt_nodes f w n top (if_else e a b) is h = or_from _ _ (pair (expr_nodes f w (n) false false e is.0) (pair (stmts_nodes f w (n + expr_scopes e) false a is.1) (body_nodes f w ((n + expr_scopes e) + stmts_scopes a) b is.2)) h) refl
  stmt_nodes f w n top (do_while body e) is h = or_from _ _ (pair (stmts_nodes f w n false body is.0) (expr_nodes f w (n + stmts_scopes body) false false e is.1) h) refl
  stmt_nodes f w n top (while e body) is h = or_from _ _ (pair (expr_nodes f w (n) false false e is.0) (stmts_nodes f w (n + expr_scopes e) false body is.1) h) refl
  stmt_nodes f w n top (for no_init t s body) is h = loop_node no_init (open_maybe (opening f w) (n + 0) t) (open_maybe (opening f w) ((n + 0) + maybe_expr_scopes t) s) (open_stmts (opening f w) (((n + 0) + maybe_expr_scopes t) + maybe_expr_scopes s) body) refl refl (pair (maybe_nodes f w (n + 0) t is.1) (pair (maybe_nodes f w ((n + 0) + maybe_expr_scopes t) s is.2) (stmts_nodes f w (((n + 0) + maybe_expr_scopes t) + maybe_expr_scopes s) false body is.3)) h)
  stmt_nodes f w n top (for (init_var ds) t s body) is h =
      let restricted : Bool = list_any is_restricted (declarator_names ds) in
      let free : restricted ≡ false = (or_parts restricted _ (or_parts _ (declarators_any kept ds || (maybe_expr_any kept t || (maybe_expr_any kept s || stmts_any kept body))) h).0).0 in
      let more : (declarators_any kept ds || (maybe_expr_any kept t || (maybe_expr_any kept s || stmts_any kept body))) ≡ false =
      (or_parts _ (declarators_any kept ds || (maybe_expr_any kept t || (maybe_expr_any kept s || stmts_any kept body))) h).1 in
      let parts : (declarators_any kept ds ≡ false) × ((maybe_expr_any kept t || (maybe_expr_any kept s || stmts_any kept body)) ≡ false) = or_parts _ _ more in
      for_var_nodes (opening f w) ds _ (is_changed (opening f w) ds) _ _ _ _ free (assignments_nodes f w n ds is.0.1 free parts.0)
      (ap (λ xs. list_any is_restricted xs) (opened_declarator_names (opening f w) n ds) ∙ free) (declarators_nodes f w n ds is.0.1 parts.0)
      (pair (maybe_nodes f w (n + declarators_scopes ds) t is.1) (pair (maybe_nodes f w ((n + declarators_scopes ds) + maybe_expr_scopes t) s is.2) (stmts_nodes f w (((n + declarators_scopes ds) + maybe_expr_scopes t) + maybe_expr_scopes s) false body is.3)) parts.1)
  stmt_nodes f w n top (for (init_expr e) t s body) is h =
      let parts : (expr_any kept false e ≡ false) × ((maybe_expr_any kept t || (maybe_expr_any kept s || stmts_any kept body)) ≡ false) = or_parts _ _ h in
      loop_node (init_expr (open_expr (opening f w) n e)) (open_maybe (opening f w) (n + expr_scopes e) t) (open_maybe (opening f w) ((n + expr_scopes e) + maybe_expr_scopes t) s) (open_stmts (opening f w) (((n + expr_scopes e) + maybe_expr_scopes t) + maybe_expr_scopes s) body) refl (expr_nodes f w n false false e is.0 parts.0)
      (pair (maybe_nodes f w (n + expr_scopes e) t is.1) (pair (maybe_nodes f w ((n + expr_scopes e) + maybe_expr_scopes t) s is.2) (stmts_nodes f w (((n + expr_scopes e) + maybe_expr_scopes t) + maybe_expr_scopes s) false body is.3)) parts.1)
  stmt_nodes f w n top (for_in declared t e body) is h =
      let parts : ((not (is_target t) || false) ≡ false) × ((expr_any kept false t || (expr_any kept false e || stmts_any kept body)) ≡ false) = or_parts _ _ h in
      before_nodes (opening f w) declared t _ (or_parts (expr_any kept false t) _ parts.1).0
      (or_from _ _ (or_from _ _ (or_from _ _ (still_target (opening f w) n t (or_parts _ false parts.0).0) refl)
      (pair (expr_nodes f w (n) false false t is.1) (pair (expr_nodes f w (n + expr_scopes t) false false e is.2) (stmts_nodes f w ((n + expr_scopes t) + expr_scopes e) false body is.3)) parts.1)) refl)
  stmt_nodes f w n top continue is h = refl
  stmt_nodes f w n top break is h = refl
  stmt_nodes f w n top (return e) is h = or_from _ _ (maybe_nodes f w n e is h) refl
  stmt_nodes f w n top (throw e) is h = or_from _ _ (expr_nodes f w n false false e is h) refl
  stmt_nodes f w n top (try b c l) is h = or_from _ _ (pair (stmts_nodes f w n false b is.1) (pair (catch_nodes f w (n + stmts_scopes b) c is.2) (body_nodes f w ((n + stmts_scopes b) + catch_scopes c) l is.3)) h) refl
  stmt_nodes f w n top (switch e cs) is h = or_from _ _ (pair (expr_nodes f w (n) false false e is.0) (cases_nodes f w (n + expr_scopes e) cs is.2) h) refl

  pub stmts_nodes : (f : List ℕ → Option ℕ) (w : List ℕ → Bool) (n : ℕ) (top : Bool) (ss : tree.Stmts) → AreStmts top ss → stmts_any kept ss ≡ false → stmts_any inner (open_stmts (opening f w) n ss) ≡ false
  stmts_nodes f w n top no_stmts is h = refl
  stmts_nodes f w n top (then_stmt s ss) is h = any_append inner (open_stmt (opening f w) n s) (open_stmts (opening f w) (n + stmt_scopes s) ss)
      (stmt_nodes f w n top s is.0 (or_parts _ _ h).0) (stmts_nodes f w (n + stmt_scopes s) top ss is.1 (or_parts _ _ h).1)

  pub body_nodes : (f : List ℕ → Option ℕ) (w : List ℕ → Bool) (n : ℕ) (b : tree.MaybeStmts) → IsMaybeBody b → maybe_stmts_any kept b ≡ false → maybe_stmts_any inner (open_maybe_body (opening f w) n b) ≡ false
  body_nodes f w n no_body is h = refl
  body_nodes f w n (one_body ss) is h = stmts_nodes f w n false ss is h

  assignments_nodes : (f : List ℕ → Option ℕ) (w : List ℕ → Bool) (n : ℕ) (ds : tree.Declarators) → AreDeclarators ds → list_any is_restricted (declarator_names ds) ≡ false → declarators_any kept ds ≡ false
      → exprs_any inner (assignments (opening f w) (open_declarators (opening f w) n ds)) ≡ false
  assignments_nodes f w n no_declarators is e h = refl
  assignments_nodes f w n (then_declarator x no_expr ds) is e h = assignments_nodes f w (n + 0) ds is.2 (or_parts (is_restricted x) _ e).1 h
  assignments_nodes f w n (then_declarator x (one_expr v) ds) is e h =
      pair (λ k. assigned_node (f x) x (open_expr (opening f w) n v) (or_parts (is_restricted x) _ e).0 (expr_nodes f w n false false v is.1 k))
      (assignments_nodes f w (n + expr_scopes v) ds is.2 (or_parts (is_restricted x) _ e).1) h

  pub declarators_nodes : (f : List ℕ → Option ℕ) (w : List ℕ → Bool) (n : ℕ) (ds : tree.Declarators) → AreDeclarators ds → declarators_any kept ds ≡ false → declarators_any inner (open_declarators (opening f w) n ds) ≡ false
  declarators_nodes f w n no_declarators is h = refl
  declarators_nodes f w n (then_declarator x e ds) is h = pair (maybe_nodes f w n e is.1) (declarators_nodes f w (n + maybe_expr_scopes e) ds is.2) h

  pub catch_nodes : (f : List ℕ → Option ℕ) (w : List ℕ → Bool) (n : ℕ) (c : tree.MaybeCatch) → IsMaybeCatch c → catch_any kept c ≡ false → catch_any inner (open_catch (opening f w) n c) ≡ false
  catch_nodes f w n no_catch is h = refl
  catch_nodes f w n (one_catch x ss) is h =
      let fields : List (List ℕ) = clause_fields x ss in
      clause_nodes f w n x ss is.1 h (stmts_nodes (field_inside fields (x ∷ []) n f) w (next_number fields n) false ss is.1 (or_parts _ (stmts_any kept ss) h).1)

  pub cases_nodes : (f : List ℕ → Option ℕ) (w : List ℕ → Bool) (n : ℕ) (cs : tree.Cases) → AreCases cs → cases_any kept cs ≡ false → cases_any inner (open_cases (opening f w) n cs) ≡ false
  cases_nodes f w n no_cases is h = refl
  cases_nodes f w n (then_case e ss cs) is h = pair (maybe_nodes f w n e is.0) (pair (stmts_nodes f w (n + maybe_expr_scopes e) false ss is.1) (cases_nodes f w ((n + maybe_expr_scopes e) + stmts_scopes ss) cs is.2)) h
