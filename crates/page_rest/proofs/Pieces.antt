-- In a piece of which no node passes one of the tests, each function is formed.
use Rattle.std.proofs.Common.{◌≡◌, refl, ap, Bool, true, false, not, ◌||◌, true≢false}
use Rattle.std.proofs.lemmas.Bool.{or_from}
use Rattle.js_core.specs.Tree as tree
use Rattle.js_core.specs.Tree.{name, num, text, bool, null, this, list, literal, func, member, index, call, construct, unary, update, binary, logical_and, logical_or, conditional, assign, comma, no_exprs, then_expr, no_expr, one_expr, no_holes, then_hole, no_fields, then_field, code, var, function, expr, empty, block, if_else, do_while, while, for, for_in, continue, break, return, throw, try, switch, no_stmts, then_stmt, no_body, one_body, no_declarators, then_declarator, no_init, init_var, init_expr, no_catch, one_catch, no_cases, then_case}
use Rattle.scope_analysis.specs.Names.{code_body}
use Rattle.scope_analysis.specs.Nodes.{cases_any, catch_any, code_any, declarators_any, expr_any, exprs_any, fields_any, holes_any, init_any, maybe_expr_any, maybe_stmts_any, stmt_any, stmts_any}
use Rattle.scope_analysis.specs.Uses.{cases_uses, catch_uses, declarators_uses, expr_uses, exprs_uses, fields_uses, holes_uses, init_uses, maybe_expr_uses, maybe_stmts_uses, stmt_uses, stmts_uses}
use Rattle.page_rest.proofs.Tests.{Kept, begun, in_clause, in_function, inner, left, right, targeted, uncalled}
use Rattle.page_rest.proofs.Wrapped.{function_formed}
use Rattle.page_rest.specs.Asks.{is_unformed}

mutual
  pub expr_formed : (b : Bool) (e : tree.Expr) → Kept (λ t. expr_any t b e) (expr_uses e) → expr_any is_unformed b e ≡ false
  expr_formed b (name x) h = refl
  expr_formed b (num n) h = refl
  expr_formed b (text x) h = refl
  expr_formed b (bool c) h = refl
  expr_formed b null h = refl
  expr_formed b this h = refl
  expr_formed b (list es) h = holes_formed es (inner _ _ h)
  expr_formed b (literal fs) h = fields_formed fs (inner _ _ h)
  expr_formed b (func c) h = or_from _ _ (ap not (function_formed c (uncalled b c h))) (code_formed c (in_function b c h))
  expr_formed b (member e x) h = expr_formed false e (inner _ _ h)
  expr_formed b (index a c) h = or_from _ _ (expr_formed false a (left _ _ _ (inner _ _ h))) (expr_formed false c (right _ _ _ (inner _ _ h)))
  expr_formed b (call f es) h = or_from _ _ (expr_formed true f (left _ _ _ (inner _ _ h))) (exprs_formed es (right _ _ _ (inner _ _ h)))
  expr_formed b (construct f es) h = or_from _ _ (expr_formed false f (left _ _ _ (inner _ _ h))) (exprs_formed es (right _ _ _ (inner _ _ h)))
  expr_formed b (unary op a) h = expr_formed false a (inner _ _ h)
  expr_formed b (update up prefix a) h = expr_formed false a (targeted _ a (inner _ _ h))
  expr_formed b (binary op a c) h = or_from _ _ (expr_formed false a (left _ _ _ (inner _ _ h))) (expr_formed false c (right _ _ _ (inner _ _ h)))
  expr_formed b (logical_and a c) h = or_from _ _ (expr_formed false a (left _ _ _ (inner _ _ h))) (expr_formed false c (right _ _ _ (inner _ _ h)))
  expr_formed b (logical_or a c) h = or_from _ _ (expr_formed false a (left _ _ _ (inner _ _ h))) (expr_formed false c (right _ _ _ (inner _ _ h)))
  expr_formed b (conditional a c d) h =
      let k = inner _ (λ t. expr_any t false a || (expr_any t false c || expr_any t false d)) h in
      or_from _ _ (expr_formed false a (left _ _ _ k))
      (or_from _ _ (expr_formed false c (left _ _ _ (right _ _ _ k)))
      (expr_formed false d (right _ _ _ (right _ _ _ k))))
  expr_formed b (assign op a c) h = or_from _ _ (expr_formed false a (targeted _ a (left _ _ _ (inner _ _ h)))) (expr_formed false c (right _ _ _ (inner _ _ h)))
  expr_formed b (comma es) h = exprs_formed es (inner _ _ h)

  pub exprs_formed : (es : tree.Exprs) → Kept (λ t. exprs_any t es) (exprs_uses es) → exprs_any is_unformed es ≡ false
  exprs_formed no_exprs h = refl
  exprs_formed (then_expr e es) h = or_from _ _ (expr_formed false e (left _ _ _ h)) (exprs_formed es (right _ _ _ h))

  pub maybe_formed : (e : tree.MaybeExpr) → Kept (λ t. maybe_expr_any t e) (maybe_expr_uses e) → maybe_expr_any is_unformed e ≡ false
  maybe_formed no_expr h = refl
  maybe_formed (one_expr e) h = expr_formed false e h

  pub holes_formed : (es : tree.Holes) → Kept (λ t. holes_any t es) (holes_uses es) → holes_any is_unformed es ≡ false
  holes_formed no_holes h = refl
  holes_formed (then_hole e es) h = or_from _ _ (maybe_formed e (left _ _ _ h)) (holes_formed es (right _ _ _ h))

  pub fields_formed : (fs : tree.Fields) → Kept (λ t. fields_any t fs) (fields_uses fs) → fields_any is_unformed fs ≡ false
  fields_formed no_fields h = refl
  fields_formed (then_field x e fs) h = or_from _ _ (expr_formed false e (left _ _ _ h)) (fields_formed fs (right _ _ _ h))

  pub code_formed : (c : tree.Code) → Kept (λ t. code_any t c) (stmts_uses (code_body c)) → code_any is_unformed c ≡ false
  code_formed (code x formals body) h = stmts_formed body h

  pub stmt_formed : (s : tree.Stmt) → Kept (λ t. stmt_any t s) (stmt_uses s) → stmt_any is_unformed s ≡ false
  stmt_formed (var ds) h = declarators_formed ds (inner _ _ h)
  stmt_formed (function c) h = absurd (true≢false h.plain)
  stmt_formed (expr e) h = expr_formed false e (inner _ _ h)
  stmt_formed empty h = refl
  stmt_formed (block ss) h = stmts_formed ss (inner _ _ h)
  stmt_formed (if_else e a c) h =
      let k = inner _ (λ t. expr_any t false e || (stmts_any t a || maybe_stmts_any t c)) h in
      or_from _ _ (expr_formed false e (left _ _ _ k))
      (or_from _ _ (stmts_formed a (left _ _ _ (right _ _ _ k)))
      (maybe_body_formed c (right _ _ _ (right _ _ _ k))))
  stmt_formed (do_while body e) h = or_from _ _ (stmts_formed body (left _ _ _ (inner _ _ h))) (expr_formed false e (right _ _ _ (inner _ _ h)))
  stmt_formed (while e body) h = or_from _ _ (expr_formed false e (left _ _ _ (inner _ _ h))) (stmts_formed body (right _ _ _ (inner _ _ h)))
  stmt_formed (for i u s body) h =
      let k = inner _ (λ t. init_any t i || (maybe_expr_any t u || (maybe_expr_any t s || stmts_any t body))) h in
      let m = right _ (λ t. init_any t i) (λ t. maybe_expr_any t u || (maybe_expr_any t s || stmts_any t body)) k in
      or_from _ _ (init_formed i (left _ _ _ k))
      (or_from _ _ (maybe_formed u (left _ _ _ m))
      (or_from _ _ (maybe_formed s (left _ _ _ (right _ _ _ m)))
      (stmts_formed body (right _ _ _ (right _ _ _ m)))))
  stmt_formed (for_in declared u e body) h =
      let k = inner _ (λ t. expr_any t false u || (expr_any t false e || stmts_any t body)) h in
      or_from _ _ (expr_formed false u (targeted _ u (left _ _ _ k)))
      (or_from _ _ (expr_formed false e (left _ _ _ (right _ _ _ k)))
      (stmts_formed body (right _ _ _ (right _ _ _ k))))
  stmt_formed continue h = refl
  stmt_formed break h = refl
  stmt_formed (return e) h = maybe_formed e (inner _ _ h)
  stmt_formed (throw e) h = expr_formed false e (inner _ _ h)
  stmt_formed (try ss c l) h =
      let k = inner _ (λ t. stmts_any t ss || (catch_any t c || maybe_stmts_any t l)) h in
      or_from _ _ (stmts_formed ss (left _ _ _ k))
      (or_from _ _ (catch_formed c (left _ _ _ (right _ _ _ k)))
      (maybe_body_formed l (right _ _ _ (right _ _ _ k))))
  stmt_formed (switch e cs) h = or_from _ _ (expr_formed false e (left _ _ _ (inner _ _ h))) (cases_formed cs (right _ _ _ (inner _ _ h)))

  pub stmts_formed : (ss : tree.Stmts) → Kept (λ t. stmts_any t ss) (stmts_uses ss) → stmts_any is_unformed ss ≡ false
  stmts_formed no_stmts h = refl
  stmts_formed (then_stmt s ss) h = or_from _ _ (stmt_formed s (left _ _ _ h)) (stmts_formed ss (right _ _ _ h))

  pub maybe_body_formed : (ss : tree.MaybeStmts) → Kept (λ t. maybe_stmts_any t ss) (maybe_stmts_uses ss) → maybe_stmts_any is_unformed ss ≡ false
  maybe_body_formed no_body h = refl
  maybe_body_formed (one_body ss) h = stmts_formed ss h

  pub declarators_formed : (ds : tree.Declarators) → Kept (λ t. declarators_any t ds) (declarators_uses ds) → declarators_any is_unformed ds ≡ false
  declarators_formed no_declarators h = refl
  declarators_formed (then_declarator x e ds) h = or_from _ _ (maybe_formed e (begun _ x e (left _ _ _ h))) (declarators_formed ds (right _ _ _ h))

  pub init_formed : (i : tree.ForInit) → Kept (λ t. init_any t i) (init_uses i) → init_any is_unformed i ≡ false
  init_formed no_init h = refl
  init_formed (init_var ds) h = declarators_formed ds h
  init_formed (init_expr e) h = expr_formed false e h

  pub catch_formed : (c : tree.MaybeCatch) → Kept (λ t. catch_any t c) (catch_uses c) → catch_any is_unformed c ≡ false
  catch_formed no_catch h = refl
  catch_formed (one_catch x ss) h = stmts_formed ss (in_clause x ss h)

  pub cases_formed : (cs : tree.Cases) → Kept (λ t. cases_any t cs) (cases_uses cs) → cases_any is_unformed cs ≡ false
  cases_formed no_cases h = refl
  cases_formed (then_case e ss cs) h =
      or_from _ _ (maybe_formed e (left _ _ _ h))
      (or_from _ _ (stmts_formed ss (left _ _ _ (right _ _ _ h)))
      (cases_formed cs (right _ _ _ (right _ _ _ h))))
