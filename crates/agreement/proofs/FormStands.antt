-- A script in form may stand where nothing is opened: captured names are constants, which the first statement of their scope sets, and each
-- function finds there the names that it leaves to the scopes round it.
use Rattle.std.proofs.Common.{◌≡◌, refl, ℕ, ◌+◌, Bool, true, false, not, ◌&&◌, ◌||◌, List, [], Option, None, Some}
use Rattle.std.proofs.lemmas.Bool.{and_from, and_parts, cond-false, cond_both, not-false, not-true, or_parts}
use Rattle.js_core.specs.declared.operators.UnaryOp.{UnaryOp}
use Rattle.js_core.specs.declared.operators.UnaryOp.TheVariants.{Delete}
use Rattle.js_core.specs.Tree as tree
use Rattle.js_core.specs.Tree.{name, num, text, bool, null, this, list, literal, func, member, index, call, construct, unary, update, binary, logical_and, logical_or, conditional, assign, comma, no_exprs, then_expr, no_expr, one_expr, no_holes, then_hole, no_fields, then_field, code, var, function, expr, empty, block, if_else, do_while, while, for, for_in, continue, break, return, throw, try, switch, no_stmts, then_stmt, no_body, one_body, no_declarators, then_declarator, no_init, init_var, init_expr, no_catch, one_catch, no_cases, then_case}
use Rattle.js_grammar.specs.Syntax.{AreCases, AreDeclarators, AreExprs, AreFields, AreHoles, AreStmts, IsExpr, IsInit, IsMaybeBody, IsMaybeCatch, IsMaybeExpr, IsStmt, IsSyntax}
use Rattle.early_rules.proofs.Callers.{rules_are_kept}
use Rattle.early_rules.specs.EarlyRules.{assigns_own_name, early_rule}
use Rattle.script_rules.specs.Form.{any_use_is_reserved, are_variables_in_form, declares_inside, has_inner_declaration, has_open_reserved, in_form, scope_out_of_form}
use Rattle.early_rules.specs.FormNodes.{is_factory}
use Rattle.scope_analysis.specs.Identifiers.{is_reserved}
use Rattle.scope_analysis.specs.Names.{maybe_name}
use Rattle.scope_analysis.specs.Nodes.{cases_any, catch_any, declarators_any, expr_any, exprs_any, fields_any, holes_any, init_any, maybe_expr_any, maybe_stmts_any, stmt_any, stmts_any}
use Rattle.scope_analysis.specs.Uses.{cases_uses, catch_uses, declarator_uses, declarators_uses, expr_uses, exprs_uses, fields_uses, holes_uses, init_uses, maybe_expr_uses, maybe_stmts_uses, stmt_uses, stmts_uses, target_uses}
use Rattle.instrumenter.specs.Counting.{stmt_scopes}
use Rattle.instrumenter.proofs.Callers.{Each, Fails, each_fails, each_parts, each_so}
use Rattle.heap_relations.specs.Naming.{Frame, resolve}
use Rattle.agreement.specs.Formed.{formed, is_found_so, is_unasked}
use Rattle.agreement.specs.Opened.{Demand, are_plain, callee_stands, cases_stand, catch_stands, declarator_stands, declarators_stand, deletes_no_field, expr_stands, exprs_stand, fields_stand, holes_stand, init_stands, maybe_body_stands, maybe_stands, may_use, rest_stands, stmt_stands, stmts_stand, target_stands}
use Rattle.agreement.proofs.FormPieces.{Allowed, Clean, Piece, Sets, begun, inner, left, right, targeted}
use Rattle.agreement.proofs.FormScopes.{clause_is, declaration_is, expression_is}

-- what is asked of a function where it is a callee, and elsewhere
three : {b c d : Bool} → b ≡ true → c ≡ true → d ≡ true → (b && (true && (c && d))) ≡ true
three e f g = and_from _ _ e (and_from _ _ f g)

four : {a b c d : Bool} → a ≡ true → b ≡ true → c ≡ true → d ≡ true → (a && (b && (true && (c && d)))) ≡ true
four e f g h = and_from _ _ e (and_from _ _ f (and_from _ _ g h))

-- f: the function is called at once to bind names; a: it is asked for
callee_asked : (f a k : Bool) → (not f && not a) ≡ false → k ≡ true → (f || (a && k)) ≡ true
callee_asked true a k h e = refl
callee_asked false true k h e = e
callee_asked false false k h e = cc h

no_field_deleted : (op : UnaryOp) (fs : List Frame) (e : tree.Expr) → deletes_no_field false op fs e ≡ true
no_field_deleted Delete fs (name x) = refl
no_field_deleted op fs e = refl

names_are_plain : (x : Option (List ℕ)) → are_plain false (maybe_name x) ≡ true
names_are_plain None = refl
names_are_plain (Some x) = refl

asked_of : (a b : Bool) → (not a && not b) ≡ false → a ≡ false → b ≡ true
asked_of true b h e = cc e
asked_of false true h e = refl
asked_of false false h e = cc h

-- the expression is a function that is called at once to bind names
abbrev is_spared : Bool → tree.Expr → Bool
is_spared false e = false
is_spared true (func c) = is_factory c
is_spared true e = false

spared_is : (c : Bool) (d : tree.Code) → is_spared c (func d) ≡ false → (c && is_factory d) ≡ false
spared_is true d h = h
spared_is false d h = refl

module _ (asks : tree.Code → Bool) where
  abbrev demand : Demand
  demand = formed asks

  target_may_stand : (n : ℕ) (e : tree.Expr) {fs : List Frame} → Piece asks (λ t. expr_any t false e) (target_uses e (expr_uses e)) fs
      → expr_stands demand n fs e ≡ true → target_stands demand fs e (expr_stands demand n fs e) ≡ true
  target_may_stand n (name x) h so = h.allowed.0.0 refl
  target_may_stand n e h so = so

  mutual
    expr_may_stand : (n : ℕ) (c : Bool) (e : tree.Expr) {fs : List Frame} → is_spared c e ≡ false → IsExpr e → Piece asks (λ t. expr_any t c e) (expr_uses e) fs
        → expr_stands demand n fs e ≡ true
    expr_may_stand n c (name x) s is h = h.read x
    expr_may_stand n c (num k) s is h = refl
    expr_may_stand n c (text x) s is h = refl
    expr_may_stand n c (bool b) s is h = refl
    expr_may_stand n c null s is h = refl
    expr_may_stand n c this s is h = refl
    expr_may_stand n c (list es) s is h = holes_may_stand _ es is (inner _ _ h)
    expr_may_stand n c (literal es) s is h = fields_may_stand _ es is (inner _ _ h)
    expr_may_stand n c (func (code x formals body)) {fs = fs} s is h =
        let o = expression_is x formals body fs {asks = asks} {n = n} c is.2 h in
        four (names_are_plain x) (and_from _ _ (asked_of _ _ (or_parts _ _ h.clean.asked).0 (spared_is c (code x formals body) s)) o.needs) o.function.sure
        (cond_both _ _ _ (λ v. v ≡ true) (λ e. rest_may_stand _ _ true body is.2 (o.function.first e)) (λ e. stmts_may_stand _ true body is.2 (o.function.whole e)))
    expr_may_stand n c (member a x) s is h = expr_may_stand _ false a refl is.0 (inner _ _ h)
    expr_may_stand n c (index a b) s is h = and_from _ _ (expr_may_stand _ false a refl is.0 (left _ _ _ (inner _ _ h))) (expr_may_stand _ false b refl is.1 (right _ _ _ (inner _ _ h)))
    expr_may_stand n c (call a es) s is h = and_from _ _ (callee_may_stand _ a is.0 (left _ _ _ (inner _ _ h)) (λ q. expr_may_stand _ true a q is.0 (left _ _ _ (inner _ _ h)))) (exprs_may_stand _ es is.1 (right _ _ _ (inner _ _ h)))
    expr_may_stand n c (construct a es) s is h = and_from _ _ (expr_may_stand _ false a refl is.0 (left _ _ _ (inner _ _ h))) (exprs_may_stand _ es is.1 (right _ _ _ (inner _ _ h)))
    expr_may_stand n c (unary op a) {fs = fs} s is h = and_from _ _ (no_field_deleted op fs a) (expr_may_stand _ false a refl is (inner _ _ h))
    expr_may_stand n c (update up prefix a) s is h = target_may_stand _ a (inner _ _ h) (expr_may_stand _ false a refl is (targeted _ a (inner _ _ h)))
    expr_may_stand n c (binary op a b) s is h = and_from _ _ (expr_may_stand _ false a refl is.0 (left _ _ _ (inner _ _ h))) (expr_may_stand _ false b refl is.1 (right _ _ _ (inner _ _ h)))
    expr_may_stand n c (logical_and a b) s is h = and_from _ _ (expr_may_stand _ false a refl is.0 (left _ _ _ (inner _ _ h))) (expr_may_stand _ false b refl is.1 (right _ _ _ (inner _ _ h)))
    expr_may_stand n c (logical_or a b) s is h = and_from _ _ (expr_may_stand _ false a refl is.0 (left _ _ _ (inner _ _ h))) (expr_may_stand _ false b refl is.1 (right _ _ _ (inner _ _ h)))
    expr_may_stand n c (conditional a b e) s is h =
        let k = inner _ (λ t. expr_any t false a || (expr_any t false b || expr_any t false e)) h in
        let m = right _ (λ t. expr_any t false a) (λ t. expr_any t false b || expr_any t false e) k in
        and_from _ _ (expr_may_stand _ false a refl is.0 (left _ _ _ k)) (and_from _ _ (expr_may_stand _ false b refl is.1 (left _ _ _ m)) (expr_may_stand _ false e refl is.2 (right _ _ _ m)))
    expr_may_stand n c (assign op a b) s is h =
        let k = inner _ (λ t. expr_any t false a || expr_any t false b) h in
        let m = left _ (λ t. expr_any t false a) (λ t. expr_any t false b) k in
        and_from _ _ (target_may_stand _ a m (expr_may_stand _ false a refl is.1 (targeted _ a m))) (expr_may_stand _ false b refl is.2 (right _ _ _ k))
    expr_may_stand n c (comma es) s is h = exprs_may_stand _ es is.1 (inner _ _ h)

    callee_may_stand : (n : ℕ) (e : tree.Expr) {fs : List Frame} → IsExpr e → Piece asks (λ t. expr_any t true e) (expr_uses e) fs
        → (is_spared true e ≡ false → expr_stands demand n fs e ≡ true) → callee_stands demand n fs e (expr_stands demand n fs e) ≡ true
    callee_may_stand n (func (code None formals body)) {fs = fs} is h so =
        let o = expression_is None formals body fs {asks = asks} {n = n} true is.2 h in
        three (callee_asked (is_factory (code None formals body)) (asks (code None formals body)) _ (or_parts _ _ h.clean.asked).0 o.needs) o.function.sure
        (cond_both _ _ _ (λ v. v ≡ true) (λ e. rest_may_stand _ _ true body is.2 (o.function.first e)) (λ e. stmts_may_stand _ true body is.2 (o.function.whole e)))
    callee_may_stand n (func (code (Some x) formals body)) is h so = so refl
    callee_may_stand n e is h so = so refl

    exprs_may_stand : (n : ℕ) (es : tree.Exprs) {fs : List Frame} → AreExprs es → Piece asks (λ t. exprs_any t es) (exprs_uses es) fs → exprs_stand demand n fs es ≡ true
    exprs_may_stand n no_exprs is h = refl
    exprs_may_stand n (then_expr e es) is h = and_from _ _ (expr_may_stand _ false e refl is.0 (left _ _ _ h)) (exprs_may_stand _ es is.1 (right _ _ _ h))

    maybe_may_stand : (n : ℕ) (e : tree.MaybeExpr) {fs : List Frame} → IsMaybeExpr e → Piece asks (λ t. maybe_expr_any t e) (maybe_expr_uses e) fs → maybe_stands demand n fs e ≡ true
    maybe_may_stand n no_expr is h = refl
    maybe_may_stand n (one_expr e) is h = expr_may_stand _ false e refl is h

    holes_may_stand : (n : ℕ) (es : tree.Holes) {fs : List Frame} → AreHoles es → Piece asks (λ t. holes_any t es) (holes_uses es) fs → holes_stand demand n fs es ≡ true
    holes_may_stand n no_holes is h = refl
    holes_may_stand n (then_hole e es) is h = and_from _ _ (maybe_may_stand _ e is.0 (left _ _ _ h)) (holes_may_stand _ es is.1 (right _ _ _ h))

    fields_may_stand : (n : ℕ) (es : tree.Fields) {fs : List Frame} → AreFields es → Piece asks (λ t. fields_any t es) (fields_uses es) fs → fields_stand demand n fs es ≡ true
    fields_may_stand n no_fields is h = refl
    fields_may_stand n (then_field x e es) is h = and_from _ _ (expr_may_stand _ false e refl is.1 (left _ _ _ h)) (fields_may_stand _ es is.2 (right _ _ _ h))

    stmt_may_stand : (n : ℕ) (top : Bool) (s : tree.Stmt) {fs : List Frame} → IsStmt top s → Piece asks (λ t. stmt_any t s) (stmt_uses s) fs → stmt_stands demand n fs s ≡ true
    stmt_may_stand n top (var ds) is h = declarators_may_stand _ ds is.1 (inner _ _ h)
    stmt_may_stand n top (function (code x formals body)) is h = absurd (cc h.clean.plain)
    stmt_may_stand n top (expr e) is h = expr_may_stand _ false e refl is (inner _ _ h)
    stmt_may_stand n top empty is h = refl
    stmt_may_stand n top (block ss) is h = stmts_may_stand _ false ss is (inner _ _ h)
    stmt_may_stand n top (if_else e a b) is h =
        let k = inner _ (λ t. expr_any t false e || (stmts_any t a || maybe_stmts_any t b)) h in
        let m = right _ (λ t. expr_any t false e) (λ t. stmts_any t a || maybe_stmts_any t b) k in
        and_from _ _ (expr_may_stand _ false e refl is.0 (left _ _ _ k)) (and_from _ _ (stmts_may_stand _ false a is.1 (left _ _ _ m)) (body_may_stand _ b is.2 (right _ _ _ m)))
    stmt_may_stand n top (do_while body e) is h = and_from _ _ (stmts_may_stand _ false body is.0 (left _ _ _ (inner _ _ h))) (expr_may_stand _ false e refl is.1 (right _ _ _ (inner _ _ h)))
    stmt_may_stand n top (while e body) is h = and_from _ _ (expr_may_stand _ false e refl is.0 (left _ _ _ (inner _ _ h))) (stmts_may_stand _ false body is.1 (right _ _ _ (inner _ _ h)))
    stmt_may_stand n top (for i u s body) is h =
        let k = inner _ (λ t. init_any t i || (maybe_expr_any t u || (maybe_expr_any t s || stmts_any t body))) h in
        let m = right _ (λ t. init_any t i) (λ t. maybe_expr_any t u || (maybe_expr_any t s || stmts_any t body)) k in
        let r = right _ (λ t. maybe_expr_any t u) (λ t. maybe_expr_any t s || stmts_any t body) m in
        and_from _ _ (init_may_stand _ i is.0 (left _ _ _ k))
        (and_from _ _ (maybe_may_stand _ u is.1 (left _ _ _ m)) (and_from _ _ (maybe_may_stand _ s is.2 (left _ _ _ r)) (stmts_may_stand _ false body is.3 (right _ _ _ r))))
    stmt_may_stand n top (for_in declared u e body) is h =
        let k = inner _ (λ t. expr_any t false u || (expr_any t false e || stmts_any t body)) h in
        let m = right _ (λ t. expr_any t false u) (λ t. expr_any t false e || stmts_any t body) k in
        let r = left _ (λ t. expr_any t false u) (λ t. expr_any t false e || stmts_any t body) k in
        and_from _ _ (target_may_stand _ u r (expr_may_stand _ false u refl is.1 (targeted _ u r))) (and_from _ _ (expr_may_stand _ false e refl is.2 (left _ _ _ m)) (stmts_may_stand _ false body is.3 (right _ _ _ m)))
    stmt_may_stand n top continue is h = refl
    stmt_may_stand n top break is h = refl
    stmt_may_stand n top (return e) is h = maybe_may_stand _ e is (inner _ _ h)
    stmt_may_stand n top (throw e) is h = expr_may_stand _ false e refl is (inner _ _ h)
    stmt_may_stand n top (try b c l) is h =
        let k = inner _ (λ t. stmts_any t b || (catch_any t c || maybe_stmts_any t l)) h in
        let m = right _ (λ t. stmts_any t b) (λ t. catch_any t c || maybe_stmts_any t l) k in
        and_from _ _ (stmts_may_stand _ false b is.1 (left _ _ _ k)) (and_from _ _ (catch_may_stand _ c is.2 (left _ _ _ m)) (body_may_stand _ l is.3 (right _ _ _ m)))
    stmt_may_stand n top (switch e cs) is h = and_from _ _ (expr_may_stand _ false e refl is.0 (left _ _ _ (inner _ _ h))) (cases_may_stand _ cs is.2 (right _ _ _ (inner _ _ h)))

    stmts_may_stand : (n : ℕ) (top : Bool) (ss : tree.Stmts) {fs : List Frame} → AreStmts top ss → Piece asks (λ t. stmts_any t ss) (stmts_uses ss) fs → stmts_stand demand n fs ss ≡ true
    stmts_may_stand n top no_stmts is h = refl
    stmts_may_stand n top (then_stmt s ss) is h = and_from _ _ (stmt_may_stand _ top s is.0 (left _ _ _ h)) (stmts_may_stand _ top ss is.1 (right _ _ _ h))

    rest_may_stand : (n : ℕ) (fs : List Frame) (top : Bool) (ss : tree.Stmts) → AreStmts top ss → Sets asks fs ss → rest_stands demand n fs ss ≡ true
    rest_may_stand n fs top (then_stmt (var (then_declarator x (one_expr (literal es)) no_declarators)) ss) is h =
        and_from _ _ (and_from _ _ h.plain (fields_may_stand _ es is.0.1.1 h.fields)) (stmts_may_stand _ top ss is.1 h.rest)
    rest_may_stand n fs top (then_stmt (expr (assign None (name x) (literal es))) ss) is h = and_from _ _ (and_from _ _ h.plain (fields_may_stand _ es is.0.2 h.fields)) (stmts_may_stand _ top ss is.1 h.rest)
    rest_may_stand n fs top ss is h = absurd h

    body_may_stand : (n : ℕ) (b : tree.MaybeStmts) {fs : List Frame} → IsMaybeBody b → Piece asks (λ t. maybe_stmts_any t b) (maybe_stmts_uses b) fs → maybe_body_stands demand n fs b ≡ true
    body_may_stand n no_body is h = refl
    body_may_stand n (one_body ss) is h = stmts_may_stand _ false ss is h

    declarators_may_stand : (n : ℕ) (ds : tree.Declarators) {fs : List Frame} → AreDeclarators ds → Piece asks (λ t. declarators_any t ds) (declarators_uses ds) fs
        → declarators_stand demand n fs ds ≡ true
    declarators_may_stand n no_declarators is h = refl
    declarators_may_stand n (then_declarator x e ds) is h = and_from _ _ (declarator_may_stand _ e x is.1 (left _ _ _ h)) (declarators_may_stand _ ds is.2 (right _ _ _ h))

    declarator_may_stand : (n : ℕ) (e : tree.MaybeExpr) (x : List ℕ) {fs : List Frame} → IsMaybeExpr e → Piece asks (λ t. maybe_expr_any t e) (declarator_uses x e) fs
        → declarator_stands demand n fs x e ≡ true
    declarator_may_stand n no_expr x is h = refl
    declarator_may_stand n (one_expr e) x is h = and_from _ _ (h.allowed.0.0 refl) (expr_may_stand _ false e refl is (begun _ x (one_expr e) h))

    init_may_stand : (n : ℕ) (i : tree.ForInit) {fs : List Frame} → IsInit i → Piece asks (λ t. init_any t i) (init_uses i) fs → init_stands demand n fs i ≡ true
    init_may_stand n no_init is h = refl
    init_may_stand n (init_var ds) is h = declarators_may_stand _ ds is.1 h
    init_may_stand n (init_expr e) is h = expr_may_stand _ false e refl is h

    catch_may_stand : (n : ℕ) (c : tree.MaybeCatch) {fs : List Frame} → IsMaybeCatch c → Piece asks (λ t. catch_any t c) (catch_uses c) fs → catch_stands demand n fs c ≡ true
    catch_may_stand n no_catch is h = refl
    catch_may_stand n (one_catch x ss) {fs = fs} is h =
        let o = clause_is {asks = asks} {n = n} {fs = fs} x ss h in
        cond_both _ _ _ (λ v. v ≡ true) (λ e. and_from _ _ (o.first e).0 (rest_may_stand _ _ false ss is.1 (o.first e).1)) (λ e. stmts_may_stand _ false ss is.1 (o.whole e))

    cases_may_stand : (n : ℕ) (cs : tree.Cases) {fs : List Frame} → AreCases cs → Piece asks (λ t. cases_any t cs) (cases_uses cs) fs → cases_stand demand n fs cs ≡ true
    cases_may_stand n no_cases is h = refl
    cases_may_stand n (then_case e ss cs) is h =
        let m = right _ (λ t. maybe_expr_any t e) (λ t. stmts_any t ss || cases_any t cs) h in
        and_from _ _ (maybe_may_stand _ e is.0 (left _ _ _ h)) (and_from _ _ (stmts_may_stand _ false ss is.1 (left _ _ _ m)) (cases_may_stand _ cs is.2 (right _ _ _ m)))

  -- ---- the top of a script, where functions may be declared

  top_may_stand : (n : ℕ) (s : tree.Stmt) → IsStmt true s → declares_inside s ≡ false → stmt_any (is_unasked asks) s ≡ false → stmt_any scope_out_of_form s ≡ false
      → stmt_any assigns_own_name s ≡ false → Each (Allowed []) (stmt_uses s) → stmt_stands demand n [] s ≡ true
  top_may_stand n (function (code x formals body)) is plain asked form own allowed =
      let clean : Clean asks (λ t. stmts_any t body) = record { asked = (or_parts _ _ asked).1; formed = (or_parts _ _ form).1; plain = plain; own = own } in
      let variables = not-false (are_variables_in_form (code x formals body) (stmts_uses body)) (or_parts _ _ form).0 in
      let o = declaration_is {asks = asks} {n = n} x formals body is.1.2 variables clean allowed in
      four (names_are_plain x) (and_from _ _ (not-false (asks (code None formals body)) (or_parts _ _ asked).0) o.needs) o.function.sure
      (cond_both _ _ _ (λ v. v ≡ true) (λ e. rest_may_stand _ _ true body is.1.2 (o.function.first e)) (λ e. stmts_may_stand _ true body is.1.2 (o.function.whole e)))
  top_may_stand n s is plain asked form own allowed =
      let read : (x : List ℕ) → may_use false false (resolve [] x) ≡ true = λ x. refl in
      stmt_may_stand n true s {fs = []} is (record { clean = record { asked = asked; formed = form; plain = plain; own = own }; allowed = allowed; read = read })

  tops_may_stand : (n : ℕ) (ss : tree.Stmts) → AreStmts true ss → has_inner_declaration ss ≡ false → stmts_any (is_unasked asks) ss ≡ false → stmts_any scope_out_of_form ss ≡ false
      → stmts_any assigns_own_name ss ≡ false → Each (Allowed []) (stmts_uses ss) → stmts_stand demand n [] ss ≡ true
  tops_may_stand n no_stmts is plain asked form own allowed = refl
  tops_may_stand n (then_stmt s ss) is plain asked form own allowed =
      let uses = each_parts (Allowed []) (stmt_uses s) (stmts_uses ss) allowed in
      and_from _ _ (top_may_stand n s is.0 (or_parts (declares_inside s) (has_inner_declaration ss) plain).0 (or_parts _ _ asked).0 (or_parts _ _ form).0 (or_parts _ _ own).0 uses.0)
      (tops_may_stand (n + stmt_scopes s) ss is.1 (or_parts (declares_inside s) (has_inner_declaration ss) plain).1 (or_parts (stmt_any (is_unasked asks) s) (stmts_any (is_unasked asks) ss) asked).1
      (or_parts (stmt_any scope_out_of_form s) (stmts_any scope_out_of_form ss) form).1 (or_parts (stmt_any assigns_own_name s) (stmts_any assigns_own_name ss) own).1 uses.1)

-- at the top no reserved name is used
found_at_top : (x : List ℕ) → is_reserved x ≡ false → is_found_so [] x ≡ true
found_at_top x h = cond-false (is_reserved x) false true h

-- a script in form stands where nothing is opened: captured names are constants, which the first statement of their scope sets
pub form_scripts_stand : (asks : tree.Code → Bool) (n : ℕ) (script : tree.Stmts) → in_form script ≡ true → early_rule script ≡ None → IsSyntax script
    → stmts_any (is_unasked asks) script ≡ false → stmts_stand (formed asks) n [] script ≡ true
form_scripts_stand asks n script form orderly syntax asked =
    let whole = and_parts (not (has_open_reserved script) && not (has_inner_declaration script)) (not (stmts_any scope_out_of_form script)) form in
    let parts = and_parts (not (has_open_reserved script)) (not (has_inner_declaration script)) whole.0 in
    let closed : any_use_is_reserved (stmts_uses script) ≡ false = (or_parts _ _ (not-true (has_open_reserved script) parts.0)).0 in
    let keeps = rules_are_kept script orderly in
    tops_may_stand asks n script syntax (not-true (has_inner_declaration script) parts.1) asked (not-true (stmts_any scope_out_of_form script) whole.1) keeps.own
    (each_so (Fails (λ u. is_reserved u.name)) (Allowed []) (λ u unreserved. ((λ assigns. refl), (λ crosses. found_at_top u.name unreserved))) (stmts_uses script)
    (each_fails (λ u. is_reserved u.name) (stmts_uses script) closed))
