-- An opened tree is at most 1 more than twice as high as the tree.
use Rattle.std.proofs.Common.{◌≡◌, refl, ap, ℕ, pos, ◌+◌, ◌*◌, ◌≤◌, ◌<◌, max, Bool, true, false, ◌&&◌, not, List, [], ◌∷◌, ◌++◌, ◌⊎◌, inl, inr, Option, Some, None, is_some, filter, if◌then◌else◌, arith}
use Rattle.std.proofs.lemmas.Bool.{cases_lt}
use Rattle.js_core.specs.Height.{cases_height, code_height, declarators_height, expr_height, exprs_height, fields_height, for_init_height, holes_height, maybe_catch_height, maybe_expr_height, maybe_stmts_height, stmt_height, stmts_height}
use Rattle.js_core.specs.Tree as tree
use Rattle.js_core.specs.Tree.{name, num, text, bool, null, this, list, literal, func, member, index, call, construct, unary, update, binary, logical_and, logical_or, conditional, assign, comma, no_exprs, then_expr, no_expr, one_expr, no_holes, then_hole, no_fields, then_field, code, var, function, expr, empty, block, if_else, do_while, while, for, for_in, continue, break, return, throw, try, switch, no_stmts, then_stmt, no_body, one_body, no_declarators, then_declarator, no_init, init_var, init_expr, no_catch, one_catch, no_cases, then_case}
use Rattle.js_core.specs.declared.operators.UnaryOp.TheVariants.{Void}
use Rattle.script_rules.proofs.Callers.{has_no_high_function}
use Rattle.script_rules.specs.Form.{has_high_function}
use Rattle.early_rules.specs.Limits.{form_height_limit}
use Rattle.scope_analysis.specs.Names.{is_among, own_name}
use Rattle.scope_analysis.specs.Uses.{Use, catch_uses, declarators_uses, init_uses, is_captured, leaving_clause, maybe_expr_uses, maybe_stmts_uses, stmt_uses, stmts_uses}
use Rattle.instrumenter.specs.Around.{Around, append, as_init, as_statements, assignments, before_for, before_for_in, callee, clause_object, declaration, field_or_name, in_clause, in_function, is_changed, literal_fields, next_number, opened_body, opened_fields, opened_init, opened_var, plain_names, scope_object, top, valued_names, var_of, var_where_any, without_this}
use Rattle.instrumenter.specs.Counting.{catch_scopes, expr_scopes, init_scopes, maybe_expr_scopes, stmt_scopes, stmts_scopes}
use Rattle.instrumenter.specs.Fields.{clause_fields, declaration_fields, expression_fields, has_fields}
use Rattle.instrumenter.specs.Laws.{OpenedScriptsAreLow}
use Rattle.instrumenter.specs.Opening.{open_cases, open_catch, open_declarations, open_declarators, open_expr, open_exprs, open_fields, open_function, open_holes, open_init, open_maybe, open_maybe_body, open_script, open_stmt, open_stmts, open_tops}

-- h is low enough for an opened tree, where the tree is k high
pub record Fits (h k : ℕ) : Type 0 where
  pub fits : h ≤ 2 * k + 1

more : {h k : ℕ} → Fits h k → Fits (h + 1) (k + 1)
more f = record { fits = omega (arith, f.fits) }

both : {h i k l : ℕ} → Fits h k → Fits i l → Fits (max h i) (max k l)
both f g = record { fits = omega (arith, f.fits, g.fits) }

none : Fits 0 0
none = record { fits = omega arith }

one : Fits 1 1
one = record { fits = omega arith }

-- ---- a scope that has fields is at least 2 high: a function stands in it that uses a name

expr_is_high : (e : tree.Expr) → 1 ≤ expr_height e
expr_is_high (name x) = omega arith
expr_is_high e = omega arith

stmt_is_high : (s : tree.Stmt) → 1 ≤ stmt_height s
stmt_is_high empty = omega arith
stmt_is_high s = omega arith

nothing : {us vs : List Use} → us ≡ [] → vs ≡ [] → us ++ vs ≡ []
nothing {us = us} {vs = vs} e f = rw (e, f) refl

stmts_nothing : (ss : tree.Stmts) → stmts_height ss ≤ 0 → stmts_uses ss ≡ []
stmts_nothing no_stmts h = refl
stmts_nothing (then_stmt s ss) h = absurd (omega (arith, h, stmt_is_high s))

maybe_stmts_nothing : (ss : tree.MaybeStmts) → maybe_stmts_height ss ≤ 0 → maybe_stmts_uses ss ≡ []
maybe_stmts_nothing no_body h = refl
maybe_stmts_nothing (one_body ss) h = stmts_nothing ss h

maybe_nothing : (e : tree.MaybeExpr) → maybe_expr_height e ≤ 0 → maybe_expr_uses e ≡ []
maybe_nothing no_expr h = refl
maybe_nothing (one_expr e) h = absurd (omega (arith, h, expr_is_high e))

declarators_nothing : (ds : tree.Declarators) → declarators_height ds ≤ 0 → declarators_uses ds ≡ []
declarators_nothing no_declarators h = refl
declarators_nothing (then_declarator x e ds) h = absurd (omega (arith, h))

init_nothing : (i : tree.ForInit) → for_init_height i ≤ 0 → init_uses i ≡ []
init_nothing no_init h = refl
init_nothing (init_var ds) h = declarators_nothing ds h
init_nothing (init_expr e) h = absurd (omega (arith, h, expr_is_high e))

catch_nothing : (c : tree.MaybeCatch) → maybe_catch_height c ≤ 0 → catch_uses c ≡ []
catch_nothing no_catch h = refl
catch_nothing (one_catch x ss) h = ap (leaving_clause x) (stmts_nothing ss h)

stmt_nothing : (s : tree.Stmt) → stmt_height s ≤ 1 → stmt_uses s ≡ []
stmt_nothing (var ds) h = declarators_nothing ds (omega (arith, h))
stmt_nothing (function c) h = absurd (omega (arith, h))
stmt_nothing (expr e) h = absurd (omega (arith, h, expr_is_high e))
stmt_nothing empty h = refl
stmt_nothing (block ss) h = stmts_nothing ss (omega (arith, h))
stmt_nothing (if_else e a b) h = absurd (omega (arith, h, expr_is_high e))
stmt_nothing (do_while body e) h = absurd (omega (arith, h, expr_is_high e))
stmt_nothing (while e body) h = absurd (omega (arith, h, expr_is_high e))
stmt_nothing (for i t s body) h =
    nothing (init_nothing i (omega (arith, h)))
    (nothing (maybe_nothing t (omega (arith, h)))
    (nothing (maybe_nothing s (omega (arith, h))) (stmts_nothing body (omega (arith, h)))))
stmt_nothing (for_in declared t e body) h = absurd (omega (arith, h, expr_is_high e))
stmt_nothing continue h = refl
stmt_nothing break h = refl
stmt_nothing (return e) h = maybe_nothing e (omega (arith, h))
stmt_nothing (throw e) h = absurd (omega (arith, h, expr_is_high e))
stmt_nothing (try b c l) h =
    nothing (stmts_nothing b (omega (arith, h)))
    (nothing (catch_nothing c (omega (arith, h))) (maybe_stmts_nothing l (omega (arith, h))))
stmt_nothing (switch e cs) h = absurd (omega (arith, h, expr_is_high e))

low_uses_nothing : (ss : tree.Stmts) → stmts_height ss ≤ 1 → stmts_uses ss ≡ []
low_uses_nothing no_stmts h = refl
low_uses_nothing (then_stmt s ss) h = nothing (stmt_nothing s (omega (arith, h))) (low_uses_nothing ss (omega (arith, h)))

none_captured : (us : List Use) → us ≡ [] → (xs : List (List ℕ)) → filter (λ x. is_captured x us) xs ≡ []
none_captured us e [] = refl
none_captured us e (x ∷ xs) =
    let rest : filter (λ y. is_captured y us) xs ≡ [] = none_captured us e xs in
    let here : is_captured x us ≡ false = rw e refl in
    rw (here, rest) refl

captured_is_high : (ss : tree.Stmts) (xs : List (List ℕ)) → has_fields (filter (λ x. is_captured x (stmts_uses ss)) xs) ≡ true
    → 2 ≤ stmts_height ss
captured_is_high ss xs h = by (cases_lt 1 (stmts_height ss)) where
  by : (1 < stmts_height ss) ⊎ (stmts_height ss ≤ 1) → 2 ≤ stmts_height ss
  by (inl g) = g
  by (inr g) = let e : has_fields [] ≡ true = rw (none_captured (stmts_uses ss) (low_uses_nothing ss g) xs) at h in cc

pub room : (opens : Bool) (ss : tree.Stmts) (xs : List (List ℕ))
    → has_fields (opened_fields opens (filter (λ x. is_captured x (stmts_uses ss)) xs)) ≡ true → 2 ≤ stmts_height ss
room true ss xs h = captured_is_high ss xs h
room false ss xs h = cc

-- ---- the pieces that opening puts in

name_fits : (o : Option ℕ) (x : List ℕ) → Fits (expr_height (field_or_name o x)) 1
name_fits None x = one
name_fits (Some n) x = record { fits = omega arith }

called_name_fits : (o : Option ℕ) (x : List ℕ) → Fits (expr_height (without_this o (field_or_name o x))) 1
called_name_fits None x = one
called_name_fits (Some n) x = record { fits = omega arith }

callee_fits : (a : Around) (n : ℕ) (f : tree.Expr) → Fits (expr_height (open_expr a n f)) (expr_height f)
    → Fits (expr_height (callee a f (open_expr a n f))) (expr_height f)
callee_fits a n (name x) h = called_name_fits (a.fields x) x
callee_fits a n f h = h

append_height : (ss ts : tree.Stmts) → stmts_height (append ss ts) ≡ max (stmts_height ss) (stmts_height ts)
append_height no_stmts ts = omega arith
append_height (then_stmt s ss) ts = omega (arith, append_height ss ts)

append_fits : {k l : ℕ} (ss ts : tree.Stmts) → Fits (stmts_height ss) k → Fits (stmts_height ts) l
    → Fits (stmts_height (append ss ts)) (max k l)
append_fits ss ts f g = record { fits = omega (arith, f.fits, g.fits, append_height ss ts) }

body_fits : {k : ℕ} (opens : Bool) (ds ss : tree.Stmts) → Fits (stmts_height ds) k → Fits (stmts_height ss) k
    → Fits (stmts_height (opened_body opens ds ss)) k
body_fits true ds ss f g = record { fits = omega (arith, f.fits, g.fits, append_height ds ss) }
body_fits false ds ss f g = g

value_is_low : (b : Bool) (x : List ℕ) → expr_height (if b then name x else unary Void (num (Some (pos 0)))) ≤ 2
value_is_low true x = omega arith
value_is_low false x = omega arith

pub literal_is_low : (valued xs : List (List ℕ)) → fields_height (literal_fields valued xs) ≤ 2
literal_is_low valued [] = omega arith
literal_is_low valued (x ∷ xs) = omega (arith, value_is_low (is_among x valued) x, literal_is_low valued xs)

object_fits : {k : ℕ} (n : ℕ) (valued fields : List (List ℕ)) (ss : tree.Stmts) → (has_fields fields ≡ true → 2 ≤ k) → Fits (stmts_height ss) k
    → Fits (stmts_height (scope_object n valued fields ss)) k
object_fits n valued [] ss h f = f
object_fits n valued (x ∷ xs) ss h f = record { fits = omega (arith, h refl, f.fits, literal_is_low valued (x ∷ xs)) }

clause_fits : {k : ℕ} (n : ℕ) (fields : List (List ℕ)) (ss : tree.Stmts) → (has_fields fields ≡ true → 2 ≤ k) → Fits (stmts_height ss) k
    → Fits (stmts_height (clause_object n fields ss)) k
clause_fits n [] ss h f = f
clause_fits n (x ∷ xs) ss h f = record { fits = omega (arith, h refl, f.fits) }

function_is_low : (k : ℕ) (b : Bool) (o : Option ℕ) (x : List ℕ) (e : tree.Expr) → expr_height e ≤ 2 * k + 2
    → stmt_height (if b then expr (assign None (field_or_name o x) e) else var_of x e) ≤ 2 * k + 4
function_is_low k true None x e h = omega (arith, h)
function_is_low k true (Some n) x e h = omega (arith, h)
function_is_low k false o x e h = omega (arith, h)

declaration_fits : {l : ℕ} (k : ℕ) (a : Around) (x : Option (List ℕ)) (e : tree.Expr) (ss : tree.Stmts) → expr_height e ≤ 2 * k + 2
    → Fits (stmts_height ss) l → Fits (stmts_height (declaration a x e ss)) (max (k + 3) l)
declaration_fits k a None e ss h f = record { fits = omega (arith, f.fits) }
declaration_fits k a (Some x) e ss h f =
    record { fits = omega (arith, f.fits, function_is_low k (a.own x) (a.fields x) x e h) }

pub plain_is_low : (a : Around) (ds : tree.Declarators) → declarators_height (plain_names a ds) ≤ 1
plain_is_low a no_declarators = omega arith
plain_is_low a (then_declarator x e ds) = by (a.own x) (plain_is_low a ds) where
  by : (b : Bool) → declarators_height (plain_names a ds) ≤ 1
      → declarators_height (if b then plain_names a ds else then_declarator x no_expr (plain_names a ds)) ≤ 1
  by true h = h
  by false h = omega (arith, h)

any_height : (ds : tree.Declarators) (ss : tree.Stmts) → stmts_height (var_where_any ds ss) ≤ max (declarators_height ds + 1) (stmts_height ss)
any_height no_declarators ss = omega arith
any_height (then_declarator x e ds) ss = omega arith

statements_height : (es : tree.Exprs) → stmts_height (as_statements es) ≤ exprs_height es + 1
statements_height no_exprs = omega arith
statements_height (then_expr e es) = omega (arith, statements_height es)

init_height : (es : tree.Exprs) → for_init_height (as_init es) ≤ exprs_height es + 1
init_height no_exprs = omega arith
init_height (then_expr e no_exprs) = omega arith
init_height (then_expr e (then_expr f es)) = omega arith

var_fits : (a : Around) (ds opened : tree.Declarators) → Fits (declarators_height opened) (declarators_height ds)
    → exprs_height (assignments a opened) ≤ 2 * declarators_height ds
    → Fits (stmts_height (opened_var a ds opened)) (declarators_height ds + 1)
var_fits a ds opened f h = by (is_changed a ds) where
  by : (b : Bool) → Fits (stmts_height (if b then var_where_any (plain_names a ds) (as_statements (assignments a opened)) else then_stmt (var opened) no_stmts))
      (declarators_height ds + 1)
  by true =
      record { fits = omega (arith, h, plain_is_low a ds, any_height (plain_names a ds) (as_statements (assignments a opened)), statements_height (assignments a opened)) }
  by false = record { fits = omega (arith, f.fits) }

header_fits : (a : Around) (ds opened : tree.Declarators) → Fits (declarators_height opened) (declarators_height ds)
    → exprs_height (assignments a opened) ≤ 2 * declarators_height ds
    → Fits (for_init_height (opened_init a ds opened)) (declarators_height ds)
header_fits a ds opened f h = by (is_changed a ds) where
  by : (b : Bool) → Fits (for_init_height (if b then as_init (assignments a opened) else init_var opened)) (declarators_height ds)
  by true = record { fits = omega (arith, h, init_height (assignments a opened)) }
  by false = f

for_fits : (k : ℕ) (a : Around) (i : tree.ForInit) (ss : tree.Stmts) → Fits (stmts_height ss) (k + 1) → Fits (stmts_height (before_for a i ss)) (k + 1)
for_fits k a (init_var ds) ss f = by (is_changed a ds) where
  by : (b : Bool) → Fits (stmts_height (if b then var_where_any (plain_names a ds) ss else ss)) (k + 1)
  by true = record { fits = omega (arith, f.fits, plain_is_low a ds, any_height (plain_names a ds) ss) }
  by false = f
for_fits k a i ss f = f

for_in_fits : (k : ℕ) (a : Around) (declared : Bool) (t : tree.Expr) (ss : tree.Stmts) → Fits (stmts_height ss) (k + 1)
    → Fits (stmts_height (before_for_in a declared t ss)) (k + 1)
for_in_fits k a true (name x) ss f = by (is_some (a.fields x) && not (a.own x)) where
  by : (b : Bool) → Fits (stmts_height (if b then then_stmt (var (then_declarator x no_expr no_declarators)) ss else ss)) (k + 1)
  by true = record { fits = omega (arith, f.fits) }
  by false = f
for_in_fits k a true t ss f = f
for_in_fits k a false t ss f = f

assignment_is_low : {k : ℕ} (l : ℕ) (o : Option ℕ) (x : List ℕ) (e : tree.Expr) (es : tree.Exprs) → Fits (expr_height e) k → 1 ≤ k
    → exprs_height es ≤ 2 * l
    → exprs_height (then_expr (assign None (field_or_name o x) e) es) ≤ 2 * max (k + 1) l
assignment_is_low l None x e es f g h = omega (arith, f.fits, g, h)
assignment_is_low l (Some n) x e es f g h = omega (arith, f.fits, g, h)

-- a statement alone
alone : {h k : ℕ} → Fits h k → Fits (max h 0) k
alone f = record { fits = omega (arith, f.fits) }

func_is_low : {h k : ℕ} → Fits h k → h + 1 ≤ 2 * k + 2
func_is_low f = omega (arith, f.fits)

wider : {h k : ℕ} (j : ℕ) → Fits h k → Fits h (max j k)
wider j f = record { fits = omega (arith, f.fits) }

further : (h k : ℕ) → h ≤ 2 * k → h ≤ 2 * max (0 + 1) k
further h k f = omega (arith, f)

unchanged : (b : Bool) (c : tree.Code) → Fits (stmts_height (if b then no_stmts else then_stmt (function c) no_stmts)) (code_height c + 3)
unchanged true c = record { fits = omega arith }
unchanged false c = record { fits = omega arith }

-- ---- trees

mutual
  pub expr_fits : (a : Around) (n : ℕ) (e : tree.Expr) → Fits (expr_height (open_expr a n e)) (expr_height e)
  expr_fits a n (name x) = name_fits (a.fields x) x
  expr_fits a n (num k) = one
  expr_fits a n (text x) = one
  expr_fits a n (bool b) = one
  expr_fits a n null = one
  expr_fits a n this = one
  expr_fits a n (list es) = more (holes_fit a n es)
  expr_fits a n (literal fs) = more (fields_fit a n fs)
  expr_fits a n (func (code x formals body)) =
      more (function_fits a n (opened_fields a.opens (expression_fields (code x formals body))) (own_name (code x formals body)) (code x formals body)
      (room a.opens body _))
  expr_fits a n (member e x) = more (expr_fits a n e)
  expr_fits a n (index d e) = more (both (expr_fits a n d) (expr_fits a (n + expr_scopes d) e))
  expr_fits a n (call f es) = more (both (callee_fits a n f (expr_fits a n f)) (exprs_fit a (n + expr_scopes f) es))
  expr_fits a n (construct f es) = more (both (expr_fits a n f) (exprs_fit a (n + expr_scopes f) es))
  expr_fits a n (unary op e) = more (expr_fits a n e)
  expr_fits a n (update up prefix e) = more (expr_fits a n e)
  expr_fits a n (binary op d e) = more (both (expr_fits a n d) (expr_fits a (n + expr_scopes d) e))
  expr_fits a n (logical_and d e) = more (both (expr_fits a n d) (expr_fits a (n + expr_scopes d) e))
  expr_fits a n (logical_or d e) = more (both (expr_fits a n d) (expr_fits a (n + expr_scopes d) e))
  expr_fits a n (conditional d e f) =
      more (both (expr_fits a n d) (both (expr_fits a (n + expr_scopes d) e) (expr_fits a ((n + expr_scopes d) + expr_scopes e) f)))
  expr_fits a n (assign op d e) = more (both (expr_fits a n d) (expr_fits a (n + expr_scopes d) e))
  expr_fits a n (comma es) = more (exprs_fit a n es)

  pub exprs_fit : (a : Around) (n : ℕ) (es : tree.Exprs) → Fits (exprs_height (open_exprs a n es)) (exprs_height es)
  exprs_fit a n no_exprs = none
  exprs_fit a n (then_expr e es) = both (expr_fits a n e) (exprs_fit a (n + expr_scopes e) es)

  pub maybe_fits : (a : Around) (n : ℕ) (e : tree.MaybeExpr) → Fits (maybe_expr_height (open_maybe a n e)) (maybe_expr_height e)
  maybe_fits a n no_expr = none
  maybe_fits a n (one_expr e) = expr_fits a n e

  pub holes_fit : (a : Around) (n : ℕ) (es : tree.Holes) → Fits (holes_height (open_holes a n es)) (holes_height es)
  holes_fit a n no_holes = none
  holes_fit a n (then_hole e es) = both (maybe_fits a n e) (holes_fit a (n + maybe_expr_scopes e) es)

  pub fields_fit : (a : Around) (n : ℕ) (fs : tree.Fields) → Fits (fields_height (open_fields a n fs)) (fields_height fs)
  fields_fit a n no_fields = none
  fields_fit a n (then_field x e fs) = both (expr_fits a n e) (fields_fit a (n + expr_scopes e) fs)

  pub function_fits : (a : Around) (n : ℕ) (fields : List (List ℕ)) (own : Option (List ℕ)) (c : tree.Code) → (has_fields fields ≡ true → 2 ≤ code_height c)
      → Fits (stmts_height (open_function a n fields own c)) (code_height c)
  function_fits a n fields own (code x formals body) h =
      object_fits n (valued_names own (code x formals body)) fields _ h (body_fits a.opens _ _
      (declarations_fit (in_function a n fields own (code x formals body)) (next_number fields n) body)
      (stmts_fit (in_function a n fields own (code x formals body)) (next_number fields n) body))

  pub declarations_fit : (a : Around) (n : ℕ) (ss : tree.Stmts) → Fits (stmts_height (open_declarations a n ss)) (stmts_height ss)
  declarations_fit a n no_stmts = none
  declarations_fit a n (then_stmt (function (code x formals body)) ss) =
      declaration_fits _ a x _ _ (func_is_low (function_fits a n (opened_fields a.opens (declaration_fields (code x formals body))) None (code x formals body)
      (room a.opens body _))) (declarations_fit a (n + stmt_scopes (function (code x formals body))) ss)
  declarations_fit a n (then_stmt s ss) = wider _ (declarations_fit a (n + stmt_scopes s) ss)

  pub stmt_fits : (a : Around) (n : ℕ) (s : tree.Stmt) → Fits (stmts_height (open_stmt a n s)) (stmt_height s)
  stmt_fits a n (var ds) = var_fits a ds (open_declarators a n ds) (declarators_fit a n ds) (assignments_fit a n ds)
  stmt_fits a n (function c) = unchanged a.opens c
  stmt_fits a n (expr e) = alone (more (expr_fits a n e))
  stmt_fits a n empty = alone one
  stmt_fits a n (block ss) = alone (more (stmts_fit a n ss))
  stmt_fits a n (if_else e s t) =
      alone (more (both (expr_fits a n e) (both (stmts_fit a (n + expr_scopes e) s) (maybe_stmts_fit a ((n + expr_scopes e) + stmts_scopes s) t))))
  stmt_fits a n (do_while body e) = alone (more (both (stmts_fit a n body) (expr_fits a (n + stmts_scopes body) e)))
  stmt_fits a n (while e body) = alone (more (both (expr_fits a n e) (stmts_fit a (n + expr_scopes e) body)))
  stmt_fits a n (for i t s body) =
      for_fits _ a i _ (alone (more (both (init_fits a n i) (both (maybe_fits a (n + init_scopes i) t)
      (both (maybe_fits a ((n + init_scopes i) + maybe_expr_scopes t) s)
      (stmts_fit a (((n + init_scopes i) + maybe_expr_scopes t) + maybe_expr_scopes s) body))))))
  stmt_fits a n (for_in declared t e body) =
      for_in_fits _ a declared t _ (alone (more (both (expr_fits a n t) (both (expr_fits a (n + expr_scopes t) e)
      (stmts_fit a ((n + expr_scopes t) + expr_scopes e) body)))))
  stmt_fits a n continue = alone one
  stmt_fits a n break = alone one
  stmt_fits a n (return e) = alone (more (maybe_fits a n e))
  stmt_fits a n (throw e) = alone (more (expr_fits a n e))
  stmt_fits a n (try b c l) =
      alone (more (both (stmts_fit a n b) (both (catch_fits a (n + stmts_scopes b) c)
      (maybe_stmts_fit a ((n + stmts_scopes b) + catch_scopes c) l))))
  stmt_fits a n (switch e cs) = alone (more (both (expr_fits a n e) (cases_fit a (n + expr_scopes e) cs)))

  pub stmts_fit : (a : Around) (n : ℕ) (ss : tree.Stmts) → Fits (stmts_height (open_stmts a n ss)) (stmts_height ss)
  stmts_fit a n no_stmts = none
  stmts_fit a n (then_stmt s ss) = append_fits (open_stmt a n s) (open_stmts a (n + stmt_scopes s) ss) (stmt_fits a n s) (stmts_fit a (n + stmt_scopes s) ss)

  pub maybe_stmts_fit : (a : Around) (n : ℕ) (ss : tree.MaybeStmts) → Fits (maybe_stmts_height (open_maybe_body a n ss)) (maybe_stmts_height ss)
  maybe_stmts_fit a n no_body = none
  maybe_stmts_fit a n (one_body ss) = stmts_fit a n ss

  pub declarators_fit : (a : Around) (n : ℕ) (ds : tree.Declarators) → Fits (declarators_height (open_declarators a n ds)) (declarators_height ds)
  declarators_fit a n no_declarators = none
  declarators_fit a n (then_declarator x e ds) = both (more (maybe_fits a n e)) (declarators_fit a (n + maybe_expr_scopes e) ds)

  pub assignments_fit : (a : Around) (n : ℕ) (ds : tree.Declarators) → exprs_height (assignments a (open_declarators a n ds)) ≤ 2 * declarators_height ds
  assignments_fit a n no_declarators = omega arith
  assignments_fit a n (then_declarator x no_expr ds) = further _ _ (assignments_fit a (n + 0) ds)
  assignments_fit a n (then_declarator x (one_expr e) ds) =
      assignment_is_low _ (a.fields x) x _ _ (expr_fits a n e) (expr_is_high e) (assignments_fit a (n + expr_scopes e) ds)

  pub init_fits : (a : Around) (n : ℕ) (i : tree.ForInit) → Fits (for_init_height (open_init a n i)) (for_init_height i)
  init_fits a n no_init = none
  init_fits a n (init_var ds) = header_fits a ds (open_declarators a n ds) (declarators_fit a n ds) (assignments_fit a n ds)
  init_fits a n (init_expr e) = expr_fits a n e

  pub catch_fits : (a : Around) (n : ℕ) (c : tree.MaybeCatch) → Fits (maybe_catch_height (open_catch a n c)) (maybe_catch_height c)
  catch_fits a n no_catch = none
  catch_fits a n (one_catch x ss) =
      clause_fits n (opened_fields a.opens (clause_fields x ss)) _ (room a.opens ss (x ∷ []))
      (stmts_fit (in_clause a n (opened_fields a.opens (clause_fields x ss)) x) (next_number (opened_fields a.opens (clause_fields x ss)) n) ss)

  pub cases_fit : (a : Around) (n : ℕ) (cs : tree.Cases) → Fits (cases_height (open_cases a n cs)) (cases_height cs)
  cases_fit a n no_cases = none
  cases_fit a n (then_case e ss cs) =
      both (maybe_fits a n e) (both (stmts_fit a (n + maybe_expr_scopes e) ss) (cases_fit a ((n + maybe_expr_scopes e) + stmts_scopes ss) cs))

-- ---- scripts

tops_fit : (a : Around) (n : ℕ) (ss : tree.Stmts) → Fits (stmts_height (open_tops a n ss)) (stmts_height ss)
tops_fit a n no_stmts = none
tops_fit a n (then_stmt (function (code x formals body)) ss) =
    both (declared_fits (function_fits a n (opened_fields a.opens (declaration_fields (code x formals body))) None (code x formals body) (room a.opens body _)))
    (tops_fit a (n + stmt_scopes (function (code x formals body))) ss)
  where
    declared_fits : {h k : ℕ} → Fits h k → Fits (h + 3) (k + 3)
    declared_fits f = record { fits = omega (arith, f.fits) }
tops_fit a n (then_stmt s ss) = append_fits (open_stmt a n s) (open_tops a (n + stmt_scopes s) ss) (stmt_fits a n s) (tops_fit a (n + stmt_scopes s) ss)

pub opened_scripts_are_low : OpenedScriptsAreLow
opened_scripts_are_low n body h = by (tops_fit (top true) n body) where
  by : Fits (stmts_height (open_script n body)) (stmts_height body)
      → (stmts_height (open_script n body) ≤ form_height_limit) × (has_high_function (open_script n body) ≡ false)
  by f = (omega (arith, f.fits, h), has_no_high_function (open_script n body) (omega (arith, f.fits, h)))
