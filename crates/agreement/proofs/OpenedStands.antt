-- A plain script may be opened: each of its trees may stand in the frames that opening gives it.
use Rattle.std.proofs.Common.{sym, ◌∙◌, ◌≡◌, refl, ℕ, ◌+◌, ◌<◌, ◌^◌, Bool, true, false, ◌||◌, List, []}
use Rattle.std.specs.List.{list_any}
use Rattle.std.proofs.lemmas.Bool.{and_from, or_parts}
use Rattle.js_core.specs.declared.operators.UnaryOp.{UnaryOp}
use Rattle.js_core.specs.declared.operators.UnaryOp.TheVariants.{Delete}
use Rattle.js_core.specs.Tree as tree
use Rattle.js_core.specs.Tree.{name, num, text, bool, null, this, list, literal, func, member, index, call, construct, unary, update, binary, logical_and, logical_or, conditional, assign, comma, no_exprs, then_expr, no_expr, one_expr, no_holes, then_hole, no_fields, then_field, code, var, function, expr, empty, block, if_else, do_while, while, for, for_in, continue, break, return, throw, try, switch, no_stmts, then_stmt, no_body, one_body, no_declarators, then_declarator, no_init, init_var, init_expr, no_catch, one_catch, no_cases, then_case}
use Rattle.js_grammar.specs.Syntax.{AreCases, AreDeclarators, AreExprs, AreFields, AreHoles, AreStmts, IsExpr, IsInit, IsMaybeBody, IsMaybeCatch, IsMaybeExpr, IsStmt}
use Rattle.early_rules.proofs.Callers.{rules_are_kept}
use Rattle.early_rules.specs.EarlyRules.{deletes_name}
use Rattle.scope_analysis.specs.Identifiers as identifiers
use Rattle.scope_analysis.specs.Names.{declarator_names, init_names}
use Rattle.scope_analysis.specs.Nodes.{cases_any, catch_any, declarators_any, expr_any, expression, exprs_any, fields_any, holes_any, init_any, maybe_expr_any, maybe_stmts_any, stmt_any, stmts_any}
use Rattle.scope_analysis.specs.Uses.{cases_uses, catch_uses, declarator_uses, declarators_uses, expr_uses, exprs_uses, fields_uses, holes_uses, init_uses, maybe_expr_uses, maybe_stmts_uses, stmt_uses, stmts_uses, target_uses}
use Rattle.instrumenter.specs.Counting.{cases_scopes, catch_scopes, declarators_scopes, expr_scopes, exprs_scopes, fields_scopes, holes_scopes, init_scopes, maybe_expr_scopes, maybe_stmts_scopes, stmt_scopes, stmts_scopes}
use Rattle.instrumenter.specs.Opened.{IsPlainScript}
use Rattle.instrumenter.proofs.Callers.{each_always}
use Rattle.heap_relations.specs.Naming.{Frame}
use Rattle.agreement.proofs.Spared.{unspared_same}
use Rattle.agreement.proofs.Unset.{unset_body}
use Rattle.agreement.specs.Opened.{is_bound, opening, Demand, cases_stand, catch_stands, declarator_stands, declarators_stand, deletes_no_field, expr_stands, exprs_stand, fields_stand, holes_stand, init_stands, maybe_body_stands, maybe_stands, stmt_stands, stmts_stand, target_stands}
use Rattle.agreement.proofs.StandsPieces.{Allowed, Piece, begun, inner, left, plain_name, right, targeted}
use Rattle.agreement.proofs.StandsScopes.{clause_opens, declaration_opens, expression_opens}

no_field_deleted : (c : Bool) (op : UnaryOp) (fs : List Frame) (e : tree.Expr) → deletes_name (expression c (unary op e)) ≡ false → deletes_no_field true op fs e ≡ true
no_field_deleted c Delete fs (name x) h = cc h
no_field_deleted c op fs e h = refl

abbrev demand : Demand
demand = opening

target_may_stand : (e : tree.Expr) {n : ℕ} {fs : List Frame} → Piece (λ t. expr_any t false e) (target_uses e (expr_uses e)) (expr_scopes e) n fs
    → expr_stands demand n fs e ≡ true → target_stands demand fs e (expr_stands demand n fs e) ≡ true
target_may_stand (name x) h so = and_from _ _ (plain_name x (or_parts _ _ h.plain).0) (h.allowed.0 refl)
target_may_stand e h so = so

mutual
  expr_may_stand : (c : Bool) (e : tree.Expr) {n : ℕ} {fs : List Frame} → IsExpr e → Piece (λ t. expr_any t c e) (expr_uses e) (expr_scopes e) n fs → expr_stands demand n fs e ≡ true
  expr_may_stand c (name x) is h = and_from _ _ (plain_name x (or_parts _ _ h.plain).0) (h.read x)
  expr_may_stand c (num k) is h = refl
  expr_may_stand c (text x) is h = refl
  expr_may_stand c (bool b) is h = refl
  expr_may_stand c null is h = refl
  expr_may_stand c this is h = refl
  expr_may_stand c (list es) is h = holes_may_stand es is (inner _ _ h)
  expr_may_stand c (literal es) is h = fields_may_stand es is (inner _ _ h)
  expr_may_stand c (func (code x formals body)) is h =
      let o = expression_opens x formals body c is.2 h in
      and_from _ _ o.plain (and_from _ _ refl (and_from _ _ o.opens (unset_body formals (is_bound formals body) body demand _ _ ∙ stmts_may_stand true body is.2 o.piece)))
  expr_may_stand c (member a x) is h = expr_may_stand false a is.0 (inner _ _ h)
  expr_may_stand c (index a b) is h = and_from _ _ (expr_may_stand false a is.0 (left _ _ _ _ (inner _ _ h))) (expr_may_stand false b is.1 (right _ _ _ _ (inner _ _ h)))
  expr_may_stand c (call a es) {n = n} {fs = fs} is h = and_from _ _ (sym (unspared_same demand (λ k. refl) n fs a) ∙ expr_may_stand true a is.0 (left _ _ _ _ (inner _ _ h))) (exprs_may_stand es is.1 (right _ _ _ _ (inner _ _ h)))
  expr_may_stand c (construct a es) is h = and_from _ _ (expr_may_stand false a is.0 (left _ _ _ _ (inner _ _ h))) (exprs_may_stand es is.1 (right _ _ _ _ (inner _ _ h)))
  expr_may_stand c (unary op a) {fs = fs} is h = and_from _ _ (no_field_deleted c op fs a (or_parts _ _ h.deletes).0) (expr_may_stand false a is (inner _ _ h))
  expr_may_stand c (update up prefix a) is h = target_may_stand a (inner _ _ h) (expr_may_stand false a is (targeted _ a (inner _ _ h)))
  expr_may_stand c (binary op a b) is h = and_from _ _ (expr_may_stand false a is.0 (left _ _ _ _ (inner _ _ h))) (expr_may_stand false b is.1 (right _ _ _ _ (inner _ _ h)))
  expr_may_stand c (logical_and a b) is h = and_from _ _ (expr_may_stand false a is.0 (left _ _ _ _ (inner _ _ h))) (expr_may_stand false b is.1 (right _ _ _ _ (inner _ _ h)))
  expr_may_stand c (logical_or a b) is h = and_from _ _ (expr_may_stand false a is.0 (left _ _ _ _ (inner _ _ h))) (expr_may_stand false b is.1 (right _ _ _ _ (inner _ _ h)))
  expr_may_stand c (conditional a b e) is h =
      let k = inner _ (λ t. expr_any t false a || (expr_any t false b || expr_any t false e)) h in
      let m = right _ _ (λ t. expr_any t false a) (λ t. expr_any t false b || expr_any t false e) k in
      and_from _ _ (expr_may_stand false a is.0 (left _ _ _ _ k)) (and_from _ _ (expr_may_stand false b is.1 (left _ _ _ _ m)) (expr_may_stand false e is.2 (right _ _ _ _ m)))
  expr_may_stand c (assign op a b) is h =
      let k = inner _ (λ t. expr_any t false a || expr_any t false b) h in
      let m = left _ _ (λ t. expr_any t false a) (λ t. expr_any t false b) k in
      and_from _ _ (target_may_stand a m (expr_may_stand false a is.1 (targeted _ a m))) (expr_may_stand false b is.2 (right _ _ _ _ k))
  expr_may_stand c (comma es) is h = exprs_may_stand es is.1 (inner _ _ h)

  exprs_may_stand : (es : tree.Exprs) {n : ℕ} {fs : List Frame} → AreExprs es → Piece (λ t. exprs_any t es) (exprs_uses es) (exprs_scopes es) n fs → exprs_stand demand n fs es ≡ true
  exprs_may_stand no_exprs is h = refl
  exprs_may_stand (then_expr e es) is h = and_from _ _ (expr_may_stand false e is.0 (left _ _ _ _ h)) (exprs_may_stand es is.1 (right _ _ _ _ h))

  maybe_may_stand : (e : tree.MaybeExpr) {n : ℕ} {fs : List Frame} → IsMaybeExpr e → Piece (λ t. maybe_expr_any t e) (maybe_expr_uses e) (maybe_expr_scopes e) n fs → maybe_stands demand n fs e ≡ true
  maybe_may_stand no_expr is h = refl
  maybe_may_stand (one_expr e) is h = expr_may_stand false e is h

  holes_may_stand : (es : tree.Holes) {n : ℕ} {fs : List Frame} → AreHoles es → Piece (λ t. holes_any t es) (holes_uses es) (holes_scopes es) n fs → holes_stand demand n fs es ≡ true
  holes_may_stand no_holes is h = refl
  holes_may_stand (then_hole e es) is h = and_from _ _ (maybe_may_stand e is.0 (left _ _ _ _ h)) (holes_may_stand es is.1 (right _ _ _ _ h))

  fields_may_stand : (es : tree.Fields) {n : ℕ} {fs : List Frame} → AreFields es → Piece (λ t. fields_any t es) (fields_uses es) (fields_scopes es) n fs → fields_stand demand n fs es ≡ true
  fields_may_stand no_fields is h = refl
  fields_may_stand (then_field x e es) is h = and_from _ _ (expr_may_stand false e is.1 (left _ _ _ _ h)) (fields_may_stand es is.2 (right _ _ _ _ h))

  stmt_may_stand : (top : Bool) (s : tree.Stmt) {n : ℕ} {fs : List Frame} → IsStmt top s → Piece (λ t. stmt_any t s) (stmt_uses s) (stmt_scopes s) n fs → stmt_stands demand n fs s ≡ true
  stmt_may_stand top (var ds) is h = declarators_may_stand ds is.1 (or_parts _ _ h.plain).0 (inner _ _ h)
  stmt_may_stand top (function (code x formals body)) is h =
      let o = declaration_opens x formals body is.1.2 h in
      and_from _ _ o.plain (and_from _ _ refl (and_from _ _ o.opens (unset_body formals (is_bound formals body) body demand _ _ ∙ stmts_may_stand true body is.1.2 o.piece)))
  stmt_may_stand top (expr e) is h = expr_may_stand false e is (inner _ _ h)
  stmt_may_stand top empty is h = refl
  stmt_may_stand top (block ss) is h = stmts_may_stand false ss is (inner _ _ h)
  stmt_may_stand top (if_else e a b) is h =
      let k = inner _ (λ t. expr_any t false e || (stmts_any t a || maybe_stmts_any t b)) h in
      let m = right _ _ (λ t. expr_any t false e) (λ t. stmts_any t a || maybe_stmts_any t b) k in
      and_from _ _ (expr_may_stand false e is.0 (left _ _ _ _ k)) (and_from _ _ (stmts_may_stand false a is.1 (left _ _ _ _ m)) (body_may_stand b is.2 (right _ _ _ _ m)))
  stmt_may_stand top (do_while body e) is h = and_from _ _ (stmts_may_stand false body is.0 (left _ _ _ _ (inner _ _ h))) (expr_may_stand false e is.1 (right _ _ _ _ (inner _ _ h)))
  stmt_may_stand top (while e body) is h = and_from _ _ (expr_may_stand false e is.0 (left _ _ _ _ (inner _ _ h))) (stmts_may_stand false body is.1 (right _ _ _ _ (inner _ _ h)))
  stmt_may_stand top (for i u s body) is h =
      let k = inner _ (λ t. init_any t i || (maybe_expr_any t u || (maybe_expr_any t s || stmts_any t body))) h in
      let m = right _ _ (λ t. init_any t i) (λ t. maybe_expr_any t u || (maybe_expr_any t s || stmts_any t body)) k in
      let r = right _ _ (λ t. maybe_expr_any t u) (λ t. maybe_expr_any t s || stmts_any t body) m in
      and_from _ _ (init_may_stand i is.0 (or_parts _ _ h.plain).0 (left _ _ _ _ k))
      (and_from _ _ (maybe_may_stand u is.1 (left _ _ _ _ m)) (and_from _ _ (maybe_may_stand s is.2 (left _ _ _ _ r)) (stmts_may_stand false body is.3 (right _ _ _ _ r))))
  stmt_may_stand top (for_in declared u e body) is h =
      let k = inner _ (λ t. expr_any t false u || (expr_any t false e || stmts_any t body)) h in
      let m = right _ _ (λ t. expr_any t false u) (λ t. expr_any t false e || stmts_any t body) k in
      let r = left _ _ (λ t. expr_any t false u) (λ t. expr_any t false e || stmts_any t body) k in
      and_from _ _ (target_may_stand u r (expr_may_stand false u is.1 (targeted _ u r))) (and_from _ _ (expr_may_stand false e is.2 (left _ _ _ _ m)) (stmts_may_stand false body is.3 (right _ _ _ _ m)))
  stmt_may_stand top continue is h = refl
  stmt_may_stand top break is h = refl
  stmt_may_stand top (return e) is h = maybe_may_stand e is (inner _ _ h)
  stmt_may_stand top (throw e) is h = expr_may_stand false e is (inner _ _ h)
  stmt_may_stand top (try b c l) is h =
      let k = inner _ (λ t. stmts_any t b || (catch_any t c || maybe_stmts_any t l)) h in
      let m = right _ _ (λ t. stmts_any t b) (λ t. catch_any t c || maybe_stmts_any t l) k in
      and_from _ _ (stmts_may_stand false b is.1 (left _ _ _ _ k)) (and_from _ _ (catch_may_stand c is.2 (left _ _ _ _ m)) (body_may_stand l is.3 (right _ _ _ _ m)))
  stmt_may_stand top (switch e cs) is h = and_from _ _ (expr_may_stand false e is.0 (left _ _ _ _ (inner _ _ h))) (cases_may_stand cs is.2 (right _ _ _ _ (inner _ _ h)))

  pub stmts_may_stand : (top : Bool) (ss : tree.Stmts) {n : ℕ} {fs : List Frame} → AreStmts top ss → Piece (λ t. stmts_any t ss) (stmts_uses ss) (stmts_scopes ss) n fs → stmts_stand demand n fs ss ≡ true
  stmts_may_stand top no_stmts is h = refl
  stmts_may_stand top (then_stmt s ss) is h = and_from _ _ (stmt_may_stand top s is.0 (left _ _ _ _ h)) (stmts_may_stand top ss is.1 (right _ _ _ _ h))

  body_may_stand : (b : tree.MaybeStmts) {n : ℕ} {fs : List Frame} → IsMaybeBody b → Piece (λ t. maybe_stmts_any t b) (maybe_stmts_uses b) (maybe_stmts_scopes b) n fs → maybe_body_stands demand n fs b ≡ true
  body_may_stand no_body is h = refl
  body_may_stand (one_body ss) is h = stmts_may_stand false ss is h

  declarators_may_stand : (ds : tree.Declarators) {n : ℕ} {fs : List Frame} → AreDeclarators ds → list_any identifiers.is_reserved (declarator_names ds) ≡ false
      → Piece (λ t. declarators_any t ds) (declarators_uses ds) (declarators_scopes ds) n fs → declarators_stand demand n fs ds ≡ true
  declarators_may_stand no_declarators is plain h = refl
  declarators_may_stand (then_declarator x e ds) is plain h =
      and_from _ _ (declarator_may_stand e x is.1 (or_parts _ _ plain).0 (left _ _ _ _ h)) (declarators_may_stand ds is.2 (or_parts _ _ plain).1 (right _ _ _ _ h))

  declarator_may_stand : (e : tree.MaybeExpr) (x : List ℕ) {n : ℕ} {fs : List Frame} → IsMaybeExpr e → identifiers.is_reserved x ≡ false
      → Piece (λ t. maybe_expr_any t e) (declarator_uses x e) (maybe_expr_scopes e) n fs → declarator_stands demand n fs x e ≡ true
  declarator_may_stand no_expr x is plain h = refl
  declarator_may_stand (one_expr e) x is plain h = and_from _ _ (and_from _ _ (plain_name x plain) (h.allowed.0 refl)) (expr_may_stand false e is (begun _ x (one_expr e) h))

  init_may_stand : (i : tree.ForInit) {n : ℕ} {fs : List Frame} → IsInit i → list_any identifiers.is_reserved (init_names i) ≡ false
      → Piece (λ t. init_any t i) (init_uses i) (init_scopes i) n fs → init_stands demand n fs i ≡ true
  init_may_stand no_init is plain h = refl
  init_may_stand (init_var ds) is plain h = declarators_may_stand ds is.1 plain h
  init_may_stand (init_expr e) is plain h = expr_may_stand false e is h

  catch_may_stand : (c : tree.MaybeCatch) {n : ℕ} {fs : List Frame} → IsMaybeCatch c → Piece (λ t. catch_any t c) (catch_uses c) (catch_scopes c) n fs → catch_stands demand n fs c ≡ true
  catch_may_stand no_catch is h = refl
  catch_may_stand (one_catch x ss) is h = let o = clause_opens x ss h in and_from _ _ o.opens (stmts_may_stand false ss is.1 o.piece)

  cases_may_stand : (cs : tree.Cases) {n : ℕ} {fs : List Frame} → AreCases cs → Piece (λ t. cases_any t cs) (cases_uses cs) (cases_scopes cs) n fs → cases_stand demand n fs cs ≡ true
  cases_may_stand no_cases is h = refl
  cases_may_stand (then_case e ss cs) is h =
      let m = right _ _ (λ t. maybe_expr_any t e) (λ t. stmts_any t ss || cases_any t cs) h in
      and_from _ _ (maybe_may_stand e is.0 (left _ _ _ _ h)) (and_from _ _ (stmts_may_stand false ss is.1 (left _ _ _ _ m)) (cases_may_stand cs is.2 (right _ _ _ _ m)))

-- the next scope object has number n
pub scripts_stand : (n : ℕ) (script : tree.Stmts) → IsPlainScript script → n + stmts_scopes script < 2 ^ 64 → stmts_stand demand n [] script ≡ true
scripts_stand n script is few =
    let keeps = rules_are_kept script is.orderly in
    stmts_may_stand true script is.syntax (record {
      plain = is.plain;
      deletes = keeps.deleted;
      own = keeps.own;
      allowed = each_always (Allowed []) (λ u e. refl) (stmts_uses script);
      read = λ x. refl;
      below = refl;
      few = few;
    })

pub plain_scripts_stand : (n : ℕ) (script : tree.Stmts) → IsPlainScript script → n + stmts_scopes script < 2 ^ 64
    → stmts_stand opening n [] script ≡ true
plain_scripts_stand = scripts_stand
