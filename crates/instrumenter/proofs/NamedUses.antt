-- The uses that a piece leaves and the names that it declares are identifiers of it: where none of these passes a test, no use does.
use Rattle.std.proofs.Common.{◌≡◌, ℕ, Bool, true, false, ◌||◌, List, ◌++◌, Option, Some, None}
use Rattle.std.specs.List.{list_any}
use Rattle.std.proofs.lemmas.Bool.{or_parts}
use Rattle.js_core.specs.Tree as tree
use Rattle.js_core.specs.Tree.{name, num, text, bool, null, this, list, literal, func, member, index, call, construct, unary, update, binary, logical_and, logical_or, conditional, assign, comma, no_exprs, then_expr, no_expr, one_expr, no_holes, then_hole, no_fields, then_field, code, var, function, expr, empty, block, if_else, do_while, while, for, for_in, continue, break, return, throw, try, switch, no_stmts, then_stmt, no_body, one_body, no_declarators, then_declarator, no_init, init_var, init_expr, no_catch, one_catch, no_cases, then_case}
use Rattle.scope_analysis.specs.Identifiers.{identifiers}
use Rattle.scope_analysis.specs.Names.{bound_names, case_names, catch_names, declared_names, declarator_names, init_names, maybe_body_names, maybe_name, stmt_names, target_names}
use Rattle.scope_analysis.specs.Nodes.{Node, cases_any, catch_any, declarators_any, expr_any, exprs_any, fields_any, holes_any, init_any, maybe_expr_any, maybe_stmts_any, stmt_any, stmts_any}
use Rattle.scope_analysis.specs.Uses.{Use, cases_uses, catch_uses, declarators_uses, expr_uses, exprs_uses, fields_uses, holes_uses, init_uses, leaving_clause, leaving_function, maybe_expr_uses, maybe_stmts_uses, stmt_uses, stmts_uses, target_uses}
use Rattle.instrumenter.proofs.Each.{Each, Fails, each_both, each_fails, each_so}
use Rattle.instrumenter.proofs.Leaving.{Leaving, Staying, leaving_from, staying_from}

module _ (p : List ℕ → Bool) where
  -- an identifier of the node passes the test
  abbrev pub named : Node → Bool
  named n = list_any p (identifiers n)

  -- the name of the use does not
  abbrev pub Unnamed : Use → Type 0
  Unnamed u = p u.name ≡ false

  leaves : (bound : List (List ℕ)) (us : List Use) → Each Unnamed us → Each Unnamed (leaving_function bound us)
  leaves bound us h = leaving_from Unnamed bound us (each_so Unnamed (Leaving Unnamed bound) (λ u is away. is) us h)

  stays : (x : List ℕ) (us : List Use) → Each Unnamed us → Each Unnamed (leaving_clause x us)
  stays x us h = staying_from Unnamed x us (each_so Unnamed (Staying Unnamed x) (λ u is away. is) us h)

  target_unnamed : (t : tree.Expr) → Each Unnamed (expr_uses t) → Each Unnamed (target_uses t (expr_uses t))
  target_unnamed (name x) h = (h.0, tt)
  target_unnamed t h = h

  mutual
    pub expr_unnamed : (c : Bool) (e : tree.Expr) → expr_any named c e ≡ false → Each Unnamed (expr_uses e)
    expr_unnamed c (name x) h = ((or_parts (p x) false h).0, tt)
    expr_unnamed c (num n) h = tt
    expr_unnamed c (text x) h = tt
    expr_unnamed c (bool b) h = tt
    expr_unnamed c null h = tt
    expr_unnamed c this h = tt
    expr_unnamed c (list es) h = holes_unnamed es h
    expr_unnamed c (literal fs) h = fields_unnamed fs h
    expr_unnamed c (func (code x formals body)) h =
        leaves (maybe_name x ++ bound_names (code x formals body)) (stmts_uses body) (stmts_unnamed body (or_parts _ _ h).1)
    expr_unnamed c (member e x) h = expr_unnamed false e h
    expr_unnamed c (index a b) h = each_both Unnamed _ _ (expr_unnamed false a (or_parts _ _ h).0) (expr_unnamed false b (or_parts _ _ h).1)
    expr_unnamed c (call f es) h = each_both Unnamed _ _ (expr_unnamed true f (or_parts _ _ h).0) (exprs_unnamed es (or_parts _ _ h).1)
    expr_unnamed c (construct f es) h = each_both Unnamed _ _ (expr_unnamed false f (or_parts _ _ h).0) (exprs_unnamed es (or_parts _ _ h).1)
    expr_unnamed c (unary op a) h = expr_unnamed false a h
    expr_unnamed c (update up prefix a) h = target_unnamed a (expr_unnamed false a h)
    expr_unnamed c (binary op a b) h = each_both Unnamed _ _ (expr_unnamed false a (or_parts _ _ h).0) (expr_unnamed false b (or_parts _ _ h).1)
    expr_unnamed c (logical_and a b) h = each_both Unnamed _ _ (expr_unnamed false a (or_parts _ _ h).0) (expr_unnamed false b (or_parts _ _ h).1)
    expr_unnamed c (logical_or a b) h = each_both Unnamed _ _ (expr_unnamed false a (or_parts _ _ h).0) (expr_unnamed false b (or_parts _ _ h).1)
    expr_unnamed c (conditional a b d) h =
        let more = (or_parts (expr_any named false a) (expr_any named false b || expr_any named false d) h).1 in
        each_both Unnamed _ _ (expr_unnamed false a (or_parts _ _ h).0)
        (each_both Unnamed _ _ (expr_unnamed false b (or_parts _ _ more).0) (expr_unnamed false d (or_parts _ _ more).1))
    expr_unnamed c (assign op a b) h = each_both Unnamed _ _ (target_unnamed a (expr_unnamed false a (or_parts _ _ h).0)) (expr_unnamed false b (or_parts _ _ h).1)
    expr_unnamed c (comma es) h = exprs_unnamed es h

    exprs_unnamed : (es : tree.Exprs) → exprs_any named es ≡ false → Each Unnamed (exprs_uses es)
    exprs_unnamed no_exprs h = tt
    exprs_unnamed (then_expr e es) h = each_both Unnamed _ _ (expr_unnamed false e (or_parts _ _ h).0) (exprs_unnamed es (or_parts _ _ h).1)

    maybe_unnamed : (e : tree.MaybeExpr) → maybe_expr_any named e ≡ false → Each Unnamed (maybe_expr_uses e)
    maybe_unnamed no_expr h = tt
    maybe_unnamed (one_expr e) h = expr_unnamed false e h

    holes_unnamed : (es : tree.Holes) → holes_any named es ≡ false → Each Unnamed (holes_uses es)
    holes_unnamed no_holes h = tt
    holes_unnamed (then_hole e es) h = each_both Unnamed _ _ (maybe_unnamed e (or_parts _ _ h).0) (holes_unnamed es (or_parts _ _ h).1)

    fields_unnamed : (fs : tree.Fields) → fields_any named fs ≡ false → Each Unnamed (fields_uses fs)
    fields_unnamed no_fields h = tt
    fields_unnamed (then_field x e fs) h = each_both Unnamed _ _ (expr_unnamed false e (or_parts _ _ h).0) (fields_unnamed fs (or_parts _ _ h).1)

    stmt_unnamed : (s : tree.Stmt) → stmt_any named s ≡ false → Each Unnamed (stmt_uses s)
    stmt_unnamed (var ds) h = declarators_unnamed ds (or_parts _ _ h).0 (or_parts _ _ h).1
    stmt_unnamed (function (code x formals body)) h = leaves (bound_names (code x formals body)) (stmts_uses body) (stmts_unnamed body (or_parts _ _ h).1)
    stmt_unnamed (expr e) h = expr_unnamed false e h
    stmt_unnamed empty h = tt
    stmt_unnamed (block ss) h = stmts_unnamed ss h
    stmt_unnamed (if_else e a b) h =
        let more = (or_parts (expr_any named false e) (stmts_any named a || maybe_stmts_any named b) h).1 in
        each_both Unnamed _ _ (expr_unnamed false e (or_parts _ _ h).0)
        (each_both Unnamed _ _ (stmts_unnamed a (or_parts _ _ more).0) (body_unnamed b (or_parts _ _ more).1))
    stmt_unnamed (do_while body e) h = each_both Unnamed _ _ (stmts_unnamed body (or_parts _ _ h).0) (expr_unnamed false e (or_parts _ _ h).1)
    stmt_unnamed (while e body) h = each_both Unnamed _ _ (expr_unnamed false e (or_parts _ _ h).0) (stmts_unnamed body (or_parts _ _ h).1)
    stmt_unnamed (for i t s body) h =
        let one = (or_parts (list_any p (init_names i)) (init_any named i || (maybe_expr_any named t || (maybe_expr_any named s || stmts_any named body))) h).1 in
        let two = (or_parts (init_any named i) (maybe_expr_any named t || (maybe_expr_any named s || stmts_any named body)) one).1 in
        let three = (or_parts (maybe_expr_any named t) (maybe_expr_any named s || stmts_any named body) two).1 in
        each_both Unnamed _ _ (init_unnamed i (or_parts (list_any p (init_names i)) (init_any named i || (maybe_expr_any named t || (maybe_expr_any named s || stmts_any named body))) h).0 (or_parts _ _ one).0)
        (each_both Unnamed _ _ (maybe_unnamed t (or_parts _ _ two).0)
        (each_both Unnamed _ _ (maybe_unnamed s (or_parts _ _ three).0) (stmts_unnamed body (or_parts _ _ three).1)))
    stmt_unnamed (for_in declared t e body) h =
        let more = (or_parts (expr_any named false t) (expr_any named false e || stmts_any named body) h).1 in
        each_both Unnamed _ _ (target_unnamed t (expr_unnamed false t (or_parts _ _ h).0))
        (each_both Unnamed _ _ (expr_unnamed false e (or_parts _ _ more).0) (stmts_unnamed body (or_parts _ _ more).1))
    stmt_unnamed continue h = tt
    stmt_unnamed break h = tt
    stmt_unnamed (return e) h = maybe_unnamed e h
    stmt_unnamed (throw e) h = expr_unnamed false e h
    stmt_unnamed (try b c l) h =
        let more = (or_parts (stmts_any named b) (catch_any named c || maybe_stmts_any named l) h).1 in
        each_both Unnamed _ _ (stmts_unnamed b (or_parts _ _ h).0) (each_both Unnamed _ _ (catch_unnamed c (or_parts _ _ more).0) (body_unnamed l (or_parts _ _ more).1))
    stmt_unnamed (switch e cs) h = each_both Unnamed _ _ (expr_unnamed false e (or_parts _ _ h).0) (cases_unnamed cs (or_parts _ _ h).1)

    pub stmts_unnamed : (ss : tree.Stmts) → stmts_any named ss ≡ false → Each Unnamed (stmts_uses ss)
    stmts_unnamed no_stmts h = tt
    stmts_unnamed (then_stmt s ss) h = each_both Unnamed _ _ (stmt_unnamed s (or_parts _ _ h).0) (stmts_unnamed ss (or_parts _ _ h).1)

    body_unnamed : (b : tree.MaybeStmts) → maybe_stmts_any named b ≡ false → Each Unnamed (maybe_stmts_uses b)
    body_unnamed no_body h = tt
    body_unnamed (one_body ss) h = stmts_unnamed ss h

    declarators_unnamed : (ds : tree.Declarators) → list_any p (declarator_names ds) ≡ false → declarators_any named ds ≡ false → Each Unnamed (declarators_uses ds)
    declarators_unnamed no_declarators h k = tt
    declarators_unnamed (then_declarator x no_expr ds) h k = declarators_unnamed ds (or_parts (p x) _ h).1 k
    declarators_unnamed (then_declarator x (one_expr e) ds) h k =
        ((or_parts (p x) _ h).0, each_both Unnamed _ _ (expr_unnamed false e (or_parts _ _ k).0) (declarators_unnamed ds (or_parts (p x) _ h).1 (or_parts _ _ k).1))

    init_unnamed : (i : tree.ForInit) → list_any p (init_names i) ≡ false → init_any named i ≡ false → Each Unnamed (init_uses i)
    init_unnamed no_init h k = tt
    init_unnamed (init_var ds) h k = declarators_unnamed ds h k
    init_unnamed (init_expr e) h k = expr_unnamed false e k

    catch_unnamed : (c : tree.MaybeCatch) → catch_any named c ≡ false → Each Unnamed (catch_uses c)
    catch_unnamed no_catch h = tt
    catch_unnamed (one_catch x ss) h = stays x (stmts_uses ss) (stmts_unnamed ss (or_parts _ _ h).1)

    cases_unnamed : (cs : tree.Cases) → cases_any named cs ≡ false → Each Unnamed (cases_uses cs)
    cases_unnamed no_cases h = tt
    cases_unnamed (then_case e ss cs) h =
        let more = (or_parts (maybe_expr_any named e) (stmts_any named ss || cases_any named cs) h).1 in
        each_both Unnamed _ _ (maybe_unnamed e (or_parts _ _ h).0) (each_both Unnamed _ _ (stmts_unnamed ss (or_parts _ _ more).0) (cases_unnamed cs (or_parts _ _ more).1))

  -- ---- declared names

  function_unnamed : (x : Option (List ℕ)) (formals : List (List ℕ)) → list_any p (maybe_name x ++ formals) ≡ false → Each (Fails p) (maybe_name x)
  function_unnamed None formals h = tt
  function_unnamed (Some x) formals h = ((or_parts (p x) _ h).0, tt)

  target_undeclared : (declared : Bool) (t : tree.Expr) → expr_any named false t ≡ false → Each (Fails p) (target_names declared t)
  target_undeclared true (name x) h = ((or_parts (p x) false h).0, tt)
  target_undeclared true t h = tt
  target_undeclared false t h = tt

  mutual
    stmt_undeclared : (s : tree.Stmt) → stmt_any named s ≡ false → Each (Fails p) (stmt_names s)
    stmt_undeclared (var ds) h = each_fails p (declarator_names ds) (or_parts _ _ h).0
    stmt_undeclared (function (code x formals body)) h = function_unnamed x formals (or_parts _ _ h).0
    stmt_undeclared (expr e) h = tt
    stmt_undeclared empty h = tt
    stmt_undeclared (block ss) h = stmts_undeclared ss h
    stmt_undeclared (if_else e a b) h =
        let more = (or_parts (expr_any named false e) (stmts_any named a || maybe_stmts_any named b) h).1 in
        each_both (Fails p) _ _ (stmts_undeclared a (or_parts _ _ more).0) (body_undeclared b (or_parts _ _ more).1)
    stmt_undeclared (do_while body e) h = stmts_undeclared body (or_parts _ _ h).0
    stmt_undeclared (while e body) h = stmts_undeclared body (or_parts _ _ h).1
    stmt_undeclared (for i t s body) h =
        let one = (or_parts (list_any p (init_names i)) (init_any named i || (maybe_expr_any named t || (maybe_expr_any named s || stmts_any named body))) h).1 in
        let two = (or_parts (init_any named i) (maybe_expr_any named t || (maybe_expr_any named s || stmts_any named body)) one).1 in
        let three = (or_parts (maybe_expr_any named t) (maybe_expr_any named s || stmts_any named body) two).1 in
        each_both (Fails p) _ _ (each_fails p (init_names i) (or_parts (list_any p (init_names i)) (init_any named i || (maybe_expr_any named t || (maybe_expr_any named s || stmts_any named body))) h).0) (stmts_undeclared body (or_parts _ _ three).1)
    stmt_undeclared (for_in declared t e body) h =
        let more = (or_parts (expr_any named false t) (expr_any named false e || stmts_any named body) h).1 in
        each_both (Fails p) _ _ (target_undeclared declared t (or_parts _ _ h).0) (stmts_undeclared body (or_parts _ _ more).1)
    stmt_undeclared continue h = tt
    stmt_undeclared break h = tt
    stmt_undeclared (return e) h = tt
    stmt_undeclared (throw e) h = tt
    stmt_undeclared (try b c l) h =
        let more = (or_parts (stmts_any named b) (catch_any named c || maybe_stmts_any named l) h).1 in
        each_both (Fails p) _ _ (stmts_undeclared b (or_parts _ _ h).0)
        (each_both (Fails p) _ _ (catch_undeclared c (or_parts _ _ more).0) (body_undeclared l (or_parts _ _ more).1))
    stmt_undeclared (switch e cs) h = cases_undeclared cs (or_parts _ _ h).1

    pub stmts_undeclared : (ss : tree.Stmts) → stmts_any named ss ≡ false → Each (Fails p) (declared_names ss)
    stmts_undeclared no_stmts h = tt
    stmts_undeclared (then_stmt s ss) h = each_both (Fails p) _ _ (stmt_undeclared s (or_parts _ _ h).0) (stmts_undeclared ss (or_parts _ _ h).1)

    body_undeclared : (b : tree.MaybeStmts) → maybe_stmts_any named b ≡ false → Each (Fails p) (maybe_body_names b)
    body_undeclared no_body h = tt
    body_undeclared (one_body ss) h = stmts_undeclared ss h

    catch_undeclared : (c : tree.MaybeCatch) → catch_any named c ≡ false → Each (Fails p) (catch_names c)
    catch_undeclared no_catch h = tt
    catch_undeclared (one_catch x ss) h = stmts_undeclared ss (or_parts _ _ h).1

    cases_undeclared : (cs : tree.Cases) → cases_any named cs ≡ false → Each (Fails p) (case_names cs)
    cases_undeclared no_cases h = tt
    cases_undeclared (then_case e ss cs) h =
        let more = (or_parts (maybe_expr_any named e) (stmts_any named ss || cases_any named cs) h).1 in
        each_both (Fails p) _ _ (stmts_undeclared ss (or_parts _ _ more).0) (cases_undeclared cs (or_parts _ _ more).1)
