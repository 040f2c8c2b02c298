-- Where no node of a piece passes either of two tests, none passes a test that fails wherever both do.
use Rattle.std.proofs.Common.{◌≡◌, refl, Bool, true, false, ◌||◌, List, [], ◌∷◌}
use Rattle.std.specs.List.{list_any}
use Rattle.std.proofs.lemmas.Bool.{or_from, or_parts}
use Rattle.js_core.specs.Tree as tree
use Rattle.js_core.specs.Tree.{name, num, text, bool, null, this, list, literal, func, member, index, call, construct, unary, update, binary, logical_and, logical_or, conditional, assign, comma, no_exprs, then_expr, no_expr, one_expr, no_holes, then_hole, no_fields, then_field, code, var, function, expr, empty, block, if_else, do_while, while, for, for_in, continue, break, return, throw, try, switch, no_stmts, then_stmt, no_body, one_body, no_declarators, then_declarator, no_init, init_var, init_expr, no_catch, one_catch, no_cases, then_case}
use Rattle.scope_analysis.specs.Nodes.{Node, cases_any, catch_any, clause, code_any, declarators_any, expr_any, expression, exprs_any, fields_any, holes_any, init_any, maybe_expr_any, maybe_stmts_any, statement, stmt_any, stmts_any}

either : {a b c d e f : Bool} → (a ≡ false → b ≡ false → c ≡ false) → (d ≡ false → e ≡ false → f ≡ false) → (a || d) ≡ false → (b || e) ≡ false → (c || f) ≡ false
either {a = a} {b = b} {c = c} {d = d} {e = e} {f = f} one more h k = or_from c f (one (or_parts a d h).0 (or_parts b e k).0) (more (or_parts a d h).1 (or_parts b e k).1)

module _ (p q r : Node → Bool) (so : (n : Node) → p n ≡ false → q n ≡ false → r n ≡ false) where
  mutual
    pub expr_narrow : (c : Bool) (e : tree.Expr) → expr_any p c e ≡ false → expr_any q c e ≡ false → expr_any r c e ≡ false
    expr_narrow c (name x) h k = so (expression c (name x)) h k
    expr_narrow c (num n) h k = so (expression c (num n)) h k
    expr_narrow c (text x) h k = so (expression c (text x)) h k
    expr_narrow c (bool b) h k = so (expression c (bool b)) h k
    expr_narrow c null h k = so (expression c null) h k
    expr_narrow c this h k = so (expression c this) h k
    expr_narrow c (list es) h k = either (so (expression c (list es))) (holes_narrow es) h k
    expr_narrow c (literal fs) h k = either (so (expression c (literal fs))) (fields_narrow fs) h k
    expr_narrow c (func d) h k = either (so (expression c (func d))) (code_narrow d) h k
    expr_narrow c (member a x) h k = either (so (expression c (member a x))) (expr_narrow false a) h k
    expr_narrow c (index a b) h k = either (so (expression c (index a b))) (either (expr_narrow false a) (expr_narrow false b)) h k
    expr_narrow c (call g es) h k = either (so (expression c (call g es))) (either (expr_narrow true g) (exprs_narrow es)) h k
    expr_narrow c (construct g es) h k = either (so (expression c (construct g es))) (either (expr_narrow false g) (exprs_narrow es)) h k
    expr_narrow c (unary op a) h k = either (so (expression c (unary op a))) (expr_narrow false a) h k
    expr_narrow c (update up prefix a) h k = either (so (expression c (update up prefix a))) (expr_narrow false a) h k
    expr_narrow c (binary op a b) h k = either (so (expression c (binary op a b))) (either (expr_narrow false a) (expr_narrow false b)) h k
    expr_narrow c (logical_and a b) h k = either (so (expression c (logical_and a b))) (either (expr_narrow false a) (expr_narrow false b)) h k
    expr_narrow c (logical_or a b) h k = either (so (expression c (logical_or a b))) (either (expr_narrow false a) (expr_narrow false b)) h k
    expr_narrow c (conditional a b d) h k = either (so (expression c (conditional a b d))) (either (expr_narrow false a) (either (expr_narrow false b) (expr_narrow false d))) h k
    expr_narrow c (assign op a b) h k = either (so (expression c (assign op a b))) (either (expr_narrow false a) (expr_narrow false b)) h k
    expr_narrow c (comma es) h k = either (so (expression c (comma es))) (exprs_narrow es) h k

    pub exprs_narrow : (es : tree.Exprs) → exprs_any p es ≡ false → exprs_any q es ≡ false → exprs_any r es ≡ false
    exprs_narrow no_exprs h k = refl
    exprs_narrow (then_expr e es) h k = either (expr_narrow false e) (exprs_narrow es) h k

    pub maybe_narrow : (e : tree.MaybeExpr) → maybe_expr_any p e ≡ false → maybe_expr_any q e ≡ false → maybe_expr_any r e ≡ false
    maybe_narrow no_expr h k = refl
    maybe_narrow (one_expr e) h k = expr_narrow false e h k

    pub holes_narrow : (es : tree.Holes) → holes_any p es ≡ false → holes_any q es ≡ false → holes_any r es ≡ false
    holes_narrow no_holes h k = refl
    holes_narrow (then_hole e es) h k = either (maybe_narrow e) (holes_narrow es) h k

    pub fields_narrow : (fs : tree.Fields) → fields_any p fs ≡ false → fields_any q fs ≡ false → fields_any r fs ≡ false
    fields_narrow no_fields h k = refl
    fields_narrow (then_field x e fs) h k = either (expr_narrow false e) (fields_narrow fs) h k

    pub code_narrow : (d : tree.Code) → code_any p d ≡ false → code_any q d ≡ false → code_any r d ≡ false
    code_narrow (code x formals body) h k = stmts_narrow body h k

    pub stmt_narrow : (s : tree.Stmt) → stmt_any p s ≡ false → stmt_any q s ≡ false → stmt_any r s ≡ false
    stmt_narrow (var ds) h k = either (so (statement (var ds))) (declarators_narrow ds) h k
    stmt_narrow (function d) h k = either (so (statement (function d))) (code_narrow d) h k
    stmt_narrow (expr e) h k = either (so (statement (expr e))) (expr_narrow false e) h k
    stmt_narrow empty h k = so (statement empty) h k
    stmt_narrow (block ss) h k = either (so (statement (block ss))) (stmts_narrow ss) h k
    stmt_narrow (if_else e a b) h k = either (so (statement (if_else e a b))) (either (expr_narrow false e) (either (stmts_narrow a) (body_narrow b))) h k
    stmt_narrow (do_while body e) h k = either (so (statement (do_while body e))) (either (stmts_narrow body) (expr_narrow false e)) h k
    stmt_narrow (while e body) h k = either (so (statement (while e body))) (either (expr_narrow false e) (stmts_narrow body)) h k
    stmt_narrow (for i t s body) h k = either (so (statement (for i t s body))) (either (init_narrow i) (either (maybe_narrow t) (either (maybe_narrow s) (stmts_narrow body)))) h k
    stmt_narrow (for_in declared t e body) h k = either (so (statement (for_in declared t e body))) (either (expr_narrow false t) (either (expr_narrow false e) (stmts_narrow body))) h k
    stmt_narrow continue h k = so (statement continue) h k
    stmt_narrow break h k = so (statement break) h k
    stmt_narrow (return e) h k = either (so (statement (return e))) (maybe_narrow e) h k
    stmt_narrow (throw e) h k = either (so (statement (throw e))) (expr_narrow false e) h k
    stmt_narrow (try b c l) h k = either (so (statement (try b c l))) (either (stmts_narrow b) (either (catch_narrow c) (body_narrow l))) h k
    stmt_narrow (switch e cs) h k = either (so (statement (switch e cs))) (either (expr_narrow false e) (cases_narrow cs)) h k

    pub stmts_narrow : (ss : tree.Stmts) → stmts_any p ss ≡ false → stmts_any q ss ≡ false → stmts_any r ss ≡ false
    stmts_narrow no_stmts h k = refl
    stmts_narrow (then_stmt s ss) h k = either (stmt_narrow s) (stmts_narrow ss) h k

    pub body_narrow : (b : tree.MaybeStmts) → maybe_stmts_any p b ≡ false → maybe_stmts_any q b ≡ false → maybe_stmts_any r b ≡ false
    body_narrow no_body h k = refl
    body_narrow (one_body ss) h k = stmts_narrow ss h k

    pub declarators_narrow : (ds : tree.Declarators) → declarators_any p ds ≡ false → declarators_any q ds ≡ false → declarators_any r ds ≡ false
    declarators_narrow no_declarators h k = refl
    declarators_narrow (then_declarator x e ds) h k = either (maybe_narrow e) (declarators_narrow ds) h k

    pub init_narrow : (i : tree.ForInit) → init_any p i ≡ false → init_any q i ≡ false → init_any r i ≡ false
    init_narrow no_init h k = refl
    init_narrow (init_var ds) h k = declarators_narrow ds h k
    init_narrow (init_expr e) h k = expr_narrow false e h k

    pub catch_narrow : (c : tree.MaybeCatch) → catch_any p c ≡ false → catch_any q c ≡ false → catch_any r c ≡ false
    catch_narrow no_catch h k = refl
    catch_narrow (one_catch x ss) h k = either (so (clause x ss)) (stmts_narrow ss) h k

    pub cases_narrow : (cs : tree.Cases) → cases_any p cs ≡ false → cases_any q cs ≡ false → cases_any r cs ≡ false
    cases_narrow no_cases h k = refl
    cases_narrow (then_case e ss cs) h k = either (maybe_narrow e) (either (stmts_narrow ss) (cases_narrow cs)) h k

-- ---- several tests

-- the node passes one of them
abbrev pub passes : List (Node → Bool) → Node → Bool
passes tests n = list_any (λ t. t n) tests

-- no node of the statements passes any of these
pub both_fail : (test : Node → Bool) (tests : List (Node → Bool)) (ss : tree.Stmts) → stmts_any test ss ≡ false → stmts_any (passes tests) ss ≡ false
    → stmts_any (passes (test ∷ tests)) ss ≡ false
both_fail test tests ss h k = stmts_narrow test (passes tests) (passes (test ∷ tests)) (λ n e d. or_from (test n) (passes tests n) e d) ss h k

pub one_fails : (test : Node → Bool) (ss : tree.Stmts) → stmts_any test ss ≡ false → stmts_any (passes (test ∷ [])) ss ≡ false
one_fails test ss h = stmts_narrow test test (passes (test ∷ [])) (λ n e d. or_from (test n) false e refl) ss h h

-- so none passes the test that fails where these do
pub narrow : (tests : List (Node → Bool)) (test : Node → Bool) → ((n : Node) → passes tests n ≡ false → test n ≡ false) → (ss : tree.Stmts)
    → stmts_any (passes tests) ss ≡ false → stmts_any test ss ≡ false
narrow tests test so ss h = stmts_narrow (passes tests) (passes tests) test (λ n e d. so n e) ss h h
