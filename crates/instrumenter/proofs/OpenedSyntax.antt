-- Opened trees are ones that some tokens have.
use Rattle.std.proofs.Common.{◌≡◌, refl, ap, ◌∙◌, ℕ, ◌+◌, Bool, true, false, not, ◌&&◌, List, [], ◌∷◌, Option, Some, None, if◌then◌else◌}
use Rattle.std.specs.Prelude.{is_some}
use Rattle.std.specs.List.{list_all}
use Rattle.std.proofs.lemmas.Bool.{and_parts}
use Rattle.js_core.specs.Tree as tree
use Rattle.js_core.specs.Tree.{name, num, text, bool, null, this, list, literal, func, member, index, call, construct, unary, update, binary, logical_and, logical_or, conditional, assign, comma, no_exprs, then_expr, no_expr, one_expr, no_holes, then_hole, no_fields, then_field, code, var, function, expr, empty, block, if_else, do_while, while, for, for_in, continue, break, return, throw, try, switch, no_stmts, then_stmt, no_body, one_body, no_declarators, then_declarator, no_init, init_var, init_expr, no_catch, one_catch, no_cases, then_case}
use Rattle.js_core.specs.declared.token.TokenKind.TheVariants.{Text, Word}
use Rattle.js_grammar.specs.Syntax.{AreCases, AreDeclarators, AreExprs, AreFields, AreHoles, AreStmts, IsCode, IsExpr, IsInit, IsMaybeBody, IsMaybeCatch, IsMaybeExpr, IsStmt, IsSyntax, are_several, are_some, has_default, has_one_default, is_handled, is_identifier, is_maybe_identifier, is_named, is_target}
use Rattle.js_lexer.specs.Written.{can_be_written, is_identifier_name, is_unit}
use Rattle.scope_analysis.specs.Names.{case_names, catch_names, declarator_names, declared_names, init_names, is_among, maybe_body_names, maybe_name, own_name, stmt_names, target_names}
use Rattle.scope_analysis.specs.Uses.{is_captured, stmts_uses}
use Rattle.instrumenter.specs.Around.{Around, append, as_init, as_statements, assignments, before_for_in, callee, clause_object, declaration, field_inside, field_or_name, is_changed, literal_fields, next_number, parameter, plain_names, scope_object, single, target_is_field, top, valued_names, var_of, var_where_any, void_zero, without_this}
use Rattle.instrumenter.specs.Counting.{catch_scopes, declarators_scopes, expr_scopes, maybe_expr_scopes, stmt_scopes, stmts_scopes}
use Rattle.instrumenter.specs.Fields.{clause_fields, declaration_fields, expression_fields, fields_in}
use Rattle.instrumenter.specs.Opening.{open_cases, open_catch, open_declarations, open_declarators, open_expr, open_exprs, open_fields, open_holes, open_maybe, open_maybe_body, open_script, open_stmt, open_stmts, open_tops}
use Rattle.instrumenter.proofs.Each.{Among, Each, each_among, each_at, each_both}
use Rattle.instrumenter.proofs.Leaving.{declarations_inside, fields_inside, opened_inside, own_is_name, statements_inside}
use Rattle.instrumenter.proofs.ObjectNames.{object_is_identifier}
use Rattle.instrumenter.proofs.OnceNames.{each_field, each_filtered}
use Rattle.instrumenter.proofs.OpenedNames.{opening}

-- ---- identifiers

abbrev Identifier : List ℕ → Type 0
Identifier x = is_identifier x ≡ true

written_word : (x : List ℕ) → is_identifier x ≡ true → can_be_written (Word x) ≡ true
written_word x e = (and_parts (can_be_written (Word x)) _ e).0

written_text : (x : List ℕ) → is_identifier x ≡ true → can_be_written (Text x) ≡ true
written_text x e = (and_parts (is_identifier_name x) (list_all is_unit x) (written_word x e)).1

each_identifier : (xs : List (List ℕ)) → list_all is_identifier xs ≡ true → Each Identifier xs
each_identifier [] e = tt
each_identifier (x ∷ xs) e = let parts = and_parts (is_identifier x) (list_all is_identifier xs) e in (parts.0, each_identifier xs parts.1)

maybe_identifier : (x : Option (List ℕ)) → is_maybe_identifier x ≡ true → Each Identifier (maybe_name x)
maybe_identifier None e = tt
maybe_identifier (Some x) e = (e, tt)

declarator_identifiers : (ds : tree.Declarators) → AreDeclarators ds → Each Identifier (declarator_names ds)
declarator_identifiers no_declarators is = tt
declarator_identifiers (then_declarator x e ds) is = (is.0, declarator_identifiers ds is.2)

init_identifiers : (i : tree.ForInit) → IsInit i → Each Identifier (init_names i)
init_identifiers no_init is = tt
init_identifiers (init_var ds) is = declarator_identifiers ds is.1
init_identifiers (init_expr e) is = tt

target_identifiers : (declared : Bool) (t : tree.Expr) → IsExpr t → Each Identifier (target_names declared t)
target_identifiers true (name x) is = (is, tt)
target_identifiers true t is = tt
target_identifiers false t is = tt

mutual
  stmt_identifiers : (top : Bool) (s : tree.Stmt) → IsStmt top s → Each Identifier (stmt_names s)
  stmt_identifiers top (var ds) is = declarator_identifiers ds is.1
  stmt_identifiers top (function (code x formals body)) is = maybe_identifier x is.1.0
  stmt_identifiers top (expr e) is = tt
  stmt_identifiers top empty is = tt
  stmt_identifiers top (block ss) is = stmts_identifiers false ss is
  stmt_identifiers top (if_else e a b) is = each_both Identifier _ _ (stmts_identifiers false a is.1) (body_identifiers b is.2)
  stmt_identifiers top (do_while body e) is = stmts_identifiers false body is.0
  stmt_identifiers top (while e body) is = stmts_identifiers false body is.1
  stmt_identifiers top (for i t s body) is = each_both Identifier _ _ (init_identifiers i is.0) (stmts_identifiers false body is.3)
  stmt_identifiers top (for_in declared t e body) is = each_both Identifier _ _ (target_identifiers declared t is.1) (stmts_identifiers false body is.3)
  stmt_identifiers top continue is = tt
  stmt_identifiers top break is = tt
  stmt_identifiers top (return e) is = tt
  stmt_identifiers top (throw e) is = tt
  stmt_identifiers top (try b c l) is =
      each_both Identifier _ _ (stmts_identifiers false b is.1) (each_both Identifier _ _ (catch_identifiers c is.2) (body_identifiers l is.3))
  stmt_identifiers top (switch e cs) is = cases_identifiers cs is.2

  stmts_identifiers : (top : Bool) (ss : tree.Stmts) → AreStmts top ss → Each Identifier (declared_names ss)
  stmts_identifiers top no_stmts is = tt
  stmts_identifiers top (then_stmt s ss) is = each_both Identifier _ _ (stmt_identifiers top s is.0) (stmts_identifiers top ss is.1)

  body_identifiers : (b : tree.MaybeStmts) → IsMaybeBody b → Each Identifier (maybe_body_names b)
  body_identifiers no_body is = tt
  body_identifiers (one_body ss) is = stmts_identifiers false ss is

  catch_identifiers : (c : tree.MaybeCatch) → IsMaybeCatch c → Each Identifier (catch_names c)
  catch_identifiers no_catch is = tt
  catch_identifiers (one_catch x ss) is = stmts_identifiers false ss is.1

  cases_identifiers : (cs : tree.Cases) → AreCases cs → Each Identifier (case_names cs)
  cases_identifiers no_cases is = tt
  cases_identifiers (then_case e ss cs) is = each_both Identifier _ _ (stmts_identifiers false ss is.1) (cases_identifiers cs is.2)

-- ---- small pieces

reference : (o : Option ℕ) (x : List ℕ) → is_identifier x ≡ true → IsExpr (field_or_name o x)
reference None x e = e
reference (Some k) x e = (object_is_identifier k, written_word x e)

callee_syntax : (a : Around) (g e : tree.Expr) → IsExpr e → IsExpr (callee a g e)
callee_syntax a (name x) e is = by (a.fields x)
  where
    by : (o : Option ℕ) → IsExpr (without_this o e)
    by None = is
    by (Some k) = (refl, (refl, (is, tt)))
callee_syntax a g e is = is

still_several : (a : Around) (n : ℕ) (es : tree.Exprs) → are_several es ≡ true → are_several (open_exprs a n es) ≡ true
still_several a n no_exprs e = e
still_several a n (then_expr d no_exprs) e = e
still_several a n (then_expr d (then_expr c es)) e = refl

still_some : (a : Around) (n : ℕ) (ds : tree.Declarators) → are_some ds ≡ true → are_some (open_declarators a n ds) ≡ true
still_some a n no_declarators e = e
still_some a n (then_declarator x v ds) e = refl

still_named : (x : Option (List ℕ)) (formals : List (List ℕ)) (body after : tree.Stmts) → is_named (code x formals body) ≡ true → is_named (code x formals after) ≡ true
still_named None formals body after e = e
still_named (Some x) formals body after e = e

still_handled : (a : Around) (m n : ℕ) (c : tree.MaybeCatch) (l : tree.MaybeStmts) → is_handled c l ≡ true → is_handled (open_catch a m c) (open_maybe_body a n l) ≡ true
still_handled a m n no_catch no_body e = e
still_handled a m n no_catch (one_body ss) e = e
still_handled a m n (one_catch x ss) no_body e = refl
still_handled a m n (one_catch x ss) (one_body ts) e = refl

same_default : (a : Around) (n : ℕ) (cs : tree.Cases) → has_default (open_cases a n cs) ≡ has_default cs
same_default a n no_cases = refl
same_default a n (then_case no_expr ss cs) = refl
same_default a n (then_case (one_expr e) ss cs) = same_default a ((n + expr_scopes e) + stmts_scopes ss) cs

same_defaults : (a : Around) (n : ℕ) (cs : tree.Cases) → has_one_default (open_cases a n cs) ≡ has_one_default cs
same_defaults a n no_cases = refl
same_defaults a n (then_case no_expr ss cs) = ap not (same_default a ((n + 0) + stmts_scopes ss) cs)
same_defaults a n (then_case (one_expr e) ss cs) = same_defaults a ((n + expr_scopes e) + stmts_scopes ss) cs

append_syntax : (top : Bool) (s t : tree.Stmts) → AreStmts top s → AreStmts top t → AreStmts top (append s t)
append_syntax top no_stmts t h k = k
append_syntax top (then_stmt s ss) t h k = (h.0, append_syntax top ss t h.1 k)

statements_syntax : (top : Bool) (es : tree.Exprs) → AreExprs es → AreStmts top (as_statements es)
statements_syntax top no_exprs h = tt
statements_syntax top (then_expr e es) h = (h.0, statements_syntax top es h.1)

init_syntax : (es : tree.Exprs) → AreExprs es → IsInit (as_init es)
init_syntax no_exprs h = tt
init_syntax (then_expr e no_exprs) h = h.0
init_syntax (then_expr e (then_expr d es)) h = (refl, h)

plain_syntax : (a : Around) (ds : tree.Declarators) → Each Identifier (declarator_names ds) → AreDeclarators (plain_names a ds)
plain_syntax a no_declarators h = tt
plain_syntax a (then_declarator x e ds) h = by (a.own x) (plain_syntax a ds h.1)
  where
    by : (b : Bool) → AreDeclarators (plain_names a ds) → AreDeclarators (if b then plain_names a ds else then_declarator x no_expr (plain_names a ds))
    by true more = more
    by false more = (h.0, tt, more)

where_any : (top : Bool) (ds : tree.Declarators) (ss : tree.Stmts) → AreDeclarators ds → AreStmts top ss → AreStmts top (var_where_any ds ss)
where_any top no_declarators ss h k = k
where_any top (then_declarator x e ds) ss h k = ((refl, h), k)

var_syntax : (top : Bool) (a : Around) (ds opened : tree.Declarators) (b : Bool) (es : tree.Exprs) → Each Identifier (declarator_names ds) → AreExprs es
    → are_some opened ≡ true → AreDeclarators opened → AreStmts top (if b then var_where_any (plain_names a ds) (as_statements es) else single (var opened))
var_syntax top a ds opened true es h k r q = where_any top (plain_names a ds) (as_statements es) (plain_syntax a ds h) (statements_syntax top es k)
var_syntax top a ds opened false es h k r q = ((r, q), tt)

for_var_syntax : (top : Bool) (a : Around) (ds opened : tree.Declarators) (b : Bool) (es : tree.Exprs) (t s : tree.MaybeExpr) (body : tree.Stmts)
    → Each Identifier (declarator_names ds) → AreExprs es → are_some opened ≡ true → AreDeclarators opened → IsMaybeExpr t → IsMaybeExpr s → AreStmts false body
    → AreStmts top (if b then var_where_any (plain_names a ds) (single (for (if b then as_init es else init_var opened) t s body))
    else single (for (if b then as_init es else init_var opened) t s body))
for_var_syntax top a ds opened true es t s body h k r q it is ib =
    where_any top (plain_names a ds) (single (for (as_init es) t s body)) (plain_syntax a ds h) ((init_syntax es k, it, is, ib), tt)
for_var_syntax top a ds opened false es t s body h k r q it is ib = (((r, q), it, is, ib), tt)

before_syntax : (top : Bool) (a : Around) (declared : Bool) (t : tree.Expr) (ss : tree.Stmts) → IsExpr t → AreStmts top ss → AreStmts top (before_for_in a declared t ss)
before_syntax top a true (name x) ss h k = by (is_some (a.fields x) && not (a.own x))
  where
    by : (b : Bool) → AreStmts top (if b then then_stmt (var (then_declarator x no_expr no_declarators)) ss else ss)
    by true = ((refl, (h, tt, tt)), k)
    by false = k
before_syntax top a true t ss h k = k
before_syntax top a false t ss h k = k

target_syntax : (a : Around) (n : ℕ) (declared : Bool) (t : tree.Expr) → is_target declared t ≡ true → is_target (declared && not (target_is_field a t)) (open_expr a n t) ≡ true
target_syntax a n false t e = refl
target_syntax a n true (name x) e = by (a.fields x)
  where
    by : (o : Option ℕ) → is_target (true && not (is_some o)) (field_or_name o x) ≡ true
    by None = refl
    by (Some k) = refl
target_syntax a n true t e = cc e

-- ---- functions

value_syntax : (valued xs : List (List ℕ)) → Each Identifier valued → Each Identifier xs → AreFields (literal_fields valued xs)
value_syntax valued [] h k = tt
value_syntax valued (x ∷ xs) h k = (written_text x k.0, by (is_among x valued), value_syntax valued xs h k.1)
  where
    by : (b : Bool) → IsExpr (if b then name x else void_zero)
    by true = k.0
    by false = refl

object_syntax : (n : ℕ) (valued fields : List (List ℕ)) (ss : tree.Stmts) → Each Identifier valued → Each Identifier fields → AreStmts true ss
    → AreStmts true (scope_object n valued fields ss)
object_syntax n valued [] ss h k r = r
object_syntax n valued (x ∷ xs) ss h k r = ((refl, (object_is_identifier n, value_syntax valued (x ∷ xs) h k, tt)), r)

inside_syntax : (f : List ℕ → Option ℕ) (n : ℕ) (own x : Option (List ℕ)) (formals : List (List ℕ)) (body : tree.Stmts)
    → ((y : List ℕ) → Among y (maybe_name own) → Among y (maybe_name x)) → IsCode (code x formals body)
    → AreStmts true (declarations_inside f n (fields_in own (code x formals body)) own x formals body)
    → AreStmts true (statements_inside f n (fields_in own (code x formals body)) own x formals body)
    → AreStmts true (opened_inside f n (fields_in own (code x formals body)) own x formals body)
inside_syntax f n own x formals body so is ds ss =
    let names : Each Identifier (maybe_name x) = maybe_identifier x is.0 in
    let owned : Each Identifier (maybe_name own) = each_among Identifier (maybe_name own) (λ y there. each_at Identifier (maybe_name x) y names (so y there)) in
    let given : Each Identifier formals = each_identifier formals is.1 in
    let fields : List (List ℕ) = fields_in own (code x formals body) in
    object_syntax n (valued_names own (code x formals body)) fields _ (each_both Identifier formals (maybe_name own) given owned)
    (each_field Identifier own x formals body owned given (stmts_identifiers true body is.2))
    (append_syntax true (declarations_inside f n fields own x formals body) (statements_inside f n fields own x formals body) ds ss)

declared_syntax : (a : Around) (x : List ℕ) (e : tree.Expr) (b : Bool) → is_identifier x ≡ true → IsExpr e
    → IsStmt true (if b then expr (assign None (field_or_name (a.fields x) x) e) else var_of x e)
declared_syntax a x e true h k = (refl, reference (a.fields x) x h, k)
declared_syntax a x e false h k = (refl, (h, k, tt))

declaration_syntax : (a : Around) (x : Option (List ℕ)) (e : tree.Expr) (ss : tree.Stmts) → is_maybe_identifier x ≡ true → IsExpr e → AreStmts true ss
    → AreStmts true (declaration a x e ss)
declaration_syntax a None e ss h k r = r
declaration_syntax a (Some x) e ss h k r = (declared_syntax a x e (a.own x) h k, r)

clause_syntax : (n : ℕ) (fields : List (List ℕ)) (x : List ℕ) (ss : tree.Stmts) → is_identifier x ≡ true → Each Identifier fields → AreStmts false ss
    → IsMaybeCatch (one_catch (parameter n fields x) (clause_object n fields ss))
clause_syntax n [] x ss h k r = (h, r)
clause_syntax n (y ∷ ys) x ss h k r = (object_is_identifier n, ((refl, object_is_identifier n, (written_text y k.0, object_is_identifier n, tt)), r))

no_own : (x : Option (List ℕ)) (y : List ℕ) → Among y [] → Among y (maybe_name x)
no_own x y there = cc there

-- ---- pieces

mutual
  pub expr_syntax : (f : List ℕ → Option ℕ) (w : List ℕ → Bool) (n : ℕ) (e : tree.Expr) → IsExpr e → IsExpr (open_expr (opening f w) n e)
  expr_syntax f w n (name x) is = reference (f x) x is
  expr_syntax f w n (num k) is = is
  expr_syntax f w n (text x) is = is
  expr_syntax f w n (bool b) is = tt
  expr_syntax f w n null is = tt
  expr_syntax f w n this is = tt
  expr_syntax f w n (list es) is = holes_syntax f w n es is
  expr_syntax f w n (literal fs) is = fields_syntax f w n fs is
  expr_syntax f w n (func (code x formals body)) is =
      let own : Option (List ℕ) = own_name (code x formals body) in
      let fields : List (List ℕ) = expression_fields (code x formals body) in
      let inside : List ℕ → Option ℕ = fields_inside f n fields own x formals body in (
        is.0,
        is.1,
        inside_syntax f n own x formals body (own_is_name x formals body) is
            (declarations_syntax inside (λ y. is_among y fields) (next_number fields n) body is.2)
            (stmts_syntax inside (λ y. is_among y fields) (next_number fields n) true body is.2),
      )
  expr_syntax f w n (member e x) is = (expr_syntax f w (n) e is.0, is.1)
  expr_syntax f w n (index a b) is = (expr_syntax f w (n) a is.0, expr_syntax f w (n + expr_scopes a) b is.1)
  expr_syntax f w n (call g es) is = (callee_syntax (opening f w) g (open_expr (opening f w) n g) (expr_syntax f w (n) g is.0), exprs_syntax f w (n + expr_scopes g) es is.1)
  expr_syntax f w n (construct g es) is = (expr_syntax f w (n) g is.0, exprs_syntax f w (n + expr_scopes g) es is.1)
  expr_syntax f w n (unary op e) is = expr_syntax f w (n) e is
  expr_syntax f w n (update up prefix e) is = expr_syntax f w (n) e is
  expr_syntax f w n (binary op a b) is = (expr_syntax f w (n) a is.0, expr_syntax f w (n + expr_scopes a) b is.1)
  expr_syntax f w n (logical_and a b) is = (expr_syntax f w (n) a is.0, expr_syntax f w (n + expr_scopes a) b is.1)
  expr_syntax f w n (logical_or a b) is = (expr_syntax f w (n) a is.0, expr_syntax f w (n + expr_scopes a) b is.1)
  expr_syntax f w n (conditional a b c) is = (expr_syntax f w (n) a is.0, expr_syntax f w (n + expr_scopes a) b is.1, expr_syntax f w ((n + expr_scopes a) + expr_scopes b) c is.2)
  expr_syntax f w n (assign op a b) is = (is.0, expr_syntax f w (n) a is.1, expr_syntax f w (n + expr_scopes a) b is.2)
  expr_syntax f w n (comma es) is = (still_several (opening f w) n es is.0, exprs_syntax f w n es is.1)

  pub exprs_syntax : (f : List ℕ → Option ℕ) (w : List ℕ → Bool) (n : ℕ) (es : tree.Exprs) → AreExprs es → AreExprs (open_exprs (opening f w) n es)
  exprs_syntax f w n no_exprs is = tt
  exprs_syntax f w n (then_expr e es) is = (expr_syntax f w (n) e is.0, exprs_syntax f w (n + expr_scopes e) es is.1)

  pub maybe_syntax : (f : List ℕ → Option ℕ) (w : List ℕ → Bool) (n : ℕ) (e : tree.MaybeExpr) → IsMaybeExpr e → IsMaybeExpr (open_maybe (opening f w) n e)
  maybe_syntax f w n no_expr is = tt
  maybe_syntax f w n (one_expr e) is = expr_syntax f w (n) e is

  pub holes_syntax : (f : List ℕ → Option ℕ) (w : List ℕ → Bool) (n : ℕ) (es : tree.Holes) → AreHoles es → AreHoles (open_holes (opening f w) n es)
  holes_syntax f w n no_holes is = tt
  holes_syntax f w n (then_hole e es) is = (maybe_syntax f w n e is.0, holes_syntax f w (n + maybe_expr_scopes e) es is.1)

  pub fields_syntax : (f : List ℕ → Option ℕ) (w : List ℕ → Bool) (n : ℕ) (fs : tree.Fields) → AreFields fs → AreFields (open_fields (opening f w) n fs)
  fields_syntax f w n no_fields is = tt
  fields_syntax f w n (then_field x e fs) is = (is.0, expr_syntax f w (n) e is.1, fields_syntax f w (n + expr_scopes e) fs is.2)

  pub declarations_syntax : (f : List ℕ → Option ℕ) (w : List ℕ → Bool) (n : ℕ) (ss : tree.Stmts) → AreStmts true ss → AreStmts true (open_declarations (opening f w) n ss)
  declarations_syntax f w n no_stmts is = tt
  declarations_syntax f w n (then_stmt (function (code x formals body)) ss) is =
      let fields : List (List ℕ) = declaration_fields (code x formals body) in
      let inside : List ℕ → Option ℕ = fields_inside f n fields None x formals body in
      declaration_syntax (opening f w) x _ _ is.0.1.0 (
        refl,
        is.0.1.1,
        inside_syntax f n None x formals body (no_own x) is.0.1
            (declarations_syntax inside (λ y. is_among y fields) (next_number fields n) body is.0.1.2)
            (stmts_syntax inside (λ y. is_among y fields) (next_number fields n) true body is.0.1.2),
      )
      (declarations_syntax f w (n + stmt_scopes (function (code x formals body))) ss is.1)
  declarations_syntax f w n (then_stmt s ss) is = declarations_syntax f w (n + stmt_scopes s) ss is.1

  pub stmt_syntax : (f : List ℕ → Option ℕ) (w : List ℕ → Bool) (n : ℕ) (top : Bool) (s : tree.Stmt) → IsStmt top s → AreStmts top (open_stmt (opening f w) n s)
  stmt_syntax f w n top (var ds) is =
      var_syntax top (opening f w) ds _ (is_changed (opening f w) ds) _ (declarator_identifiers ds is.1) (assignments_syntax f w n ds is.1)
      (still_some (opening f w) n ds is.0) (declarators_syntax f w n ds is.1)
  stmt_syntax f w n top (function e) is = tt
  stmt_syntax f w n top (expr e) is = (expr_syntax f w (n) e is, tt)
  stmt_syntax f w n top empty is = (tt, tt)
  stmt_syntax f w n top (block ss) is = (stmts_syntax f w (n) false ss is, tt)
  stmt_syntax f w n top (if_else e a b) is = ((expr_syntax f w (n) e is.0, stmts_syntax f w (n + expr_scopes e) false a is.1, body_syntax f w ((n + expr_scopes e) + stmts_scopes a) b is.2), tt)
  stmt_syntax f w n top (do_while body e) is = ((stmts_syntax f w (n) false body is.0, expr_syntax f w (n + stmts_scopes body) e is.1), tt)
  stmt_syntax f w n top (while e body) is = ((expr_syntax f w (n) e is.0, stmts_syntax f w (n + expr_scopes e) false body is.1), tt)
  stmt_syntax f w n top (for no_init t s body) is = ((tt, maybe_syntax f w (n + 0) t is.1, maybe_syntax f w ((n + 0) + maybe_expr_scopes t) s is.2, stmts_syntax f w (((n + 0) + maybe_expr_scopes t) + maybe_expr_scopes s) false body is.3), tt)
  stmt_syntax f w n top (for (init_var ds) t s body) is =
      for_var_syntax top (opening f w) ds _ (is_changed (opening f w) ds) _ _ _ _ (declarator_identifiers ds is.0.1) (assignments_syntax f w n ds is.0.1)
      (still_some (opening f w) n ds is.0.0) (declarators_syntax f w n ds is.0.1) (maybe_syntax f w (n + declarators_scopes ds) t is.1) (maybe_syntax f w ((n + declarators_scopes ds) + maybe_expr_scopes t) s is.2) (stmts_syntax f w (((n + declarators_scopes ds) + maybe_expr_scopes t) + maybe_expr_scopes s) false body is.3)
  stmt_syntax f w n top (for (init_expr e) t s body) is = ((expr_syntax f w (n) e is.0, maybe_syntax f w (n + expr_scopes e) t is.1, maybe_syntax f w ((n + expr_scopes e) + maybe_expr_scopes t) s is.2, stmts_syntax f w (((n + expr_scopes e) + maybe_expr_scopes t) + maybe_expr_scopes s) false body is.3), tt)
  stmt_syntax f w n top (for_in declared t e body) is =
      before_syntax top (opening f w) declared t _ is.1
      ((target_syntax (opening f w) n declared t is.0, expr_syntax f w (n) t is.1, expr_syntax f w (n + expr_scopes t) e is.2, stmts_syntax f w ((n + expr_scopes t) + expr_scopes e) false body is.3), tt)
  stmt_syntax f w n top continue is = (tt, tt)
  stmt_syntax f w n top break is = (tt, tt)
  stmt_syntax f w n top (return e) is = (maybe_syntax f w n e is, tt)
  stmt_syntax f w n top (throw e) is = (expr_syntax f w (n) e is, tt)
  stmt_syntax f w n top (try b c l) is = ((still_handled (opening f w) (n + stmts_scopes b) ((n + stmts_scopes b) + catch_scopes c) c l is.0, stmts_syntax f w (n) false b is.1, catch_syntax f w (n + stmts_scopes b) c is.2, body_syntax f w ((n + stmts_scopes b) + catch_scopes c) l is.3), tt)
  stmt_syntax f w n top (switch e cs) is = ((expr_syntax f w (n) e is.0, same_defaults (opening f w) (n + expr_scopes e) cs ∙ is.1, cases_syntax f w (n + expr_scopes e) cs is.2), tt)

  pub stmts_syntax : (f : List ℕ → Option ℕ) (w : List ℕ → Bool) (n : ℕ) (top : Bool) (ss : tree.Stmts) → AreStmts top ss → AreStmts top (open_stmts (opening f w) n ss)
  stmts_syntax f w n top no_stmts is = tt
  stmts_syntax f w n top (then_stmt s ss) is = append_syntax top (open_stmt (opening f w) n s) (open_stmts (opening f w) (n + stmt_scopes s) ss)
      (stmt_syntax f w n top s is.0) (stmts_syntax f w (n + stmt_scopes s) top ss is.1)

  pub body_syntax : (f : List ℕ → Option ℕ) (w : List ℕ → Bool) (n : ℕ) (b : tree.MaybeStmts) → IsMaybeBody b → IsMaybeBody (open_maybe_body (opening f w) n b)
  body_syntax f w n no_body is = tt
  body_syntax f w n (one_body ss) is = stmts_syntax f w (n) false ss is

  assignments_syntax : (f : List ℕ → Option ℕ) (w : List ℕ → Bool) (n : ℕ) (ds : tree.Declarators) → AreDeclarators ds → AreExprs (assignments (opening f w) (open_declarators (opening f w) n ds))
  assignments_syntax f w n no_declarators is = tt
  assignments_syntax f w n (then_declarator x no_expr ds) is = assignments_syntax f w (n + 0) ds is.2
  assignments_syntax f w n (then_declarator x (one_expr e) ds) is = ((refl, reference (f x) x is.0, expr_syntax f w (n) e is.1), assignments_syntax f w (n + expr_scopes e) ds is.2)

  pub declarators_syntax : (f : List ℕ → Option ℕ) (w : List ℕ → Bool) (n : ℕ) (ds : tree.Declarators) → AreDeclarators ds → AreDeclarators (open_declarators (opening f w) n ds)
  declarators_syntax f w n no_declarators is = tt
  declarators_syntax f w n (then_declarator x e ds) is = (is.0, maybe_syntax f w n e is.1, declarators_syntax f w (n + maybe_expr_scopes e) ds is.2)

  pub catch_syntax : (f : List ℕ → Option ℕ) (w : List ℕ → Bool) (n : ℕ) (c : tree.MaybeCatch) → IsMaybeCatch c → IsMaybeCatch (open_catch (opening f w) n c)
  catch_syntax f w n no_catch is = tt
  catch_syntax f w n (one_catch x ss) is =
      let fields : List (List ℕ) = clause_fields x ss in
      clause_syntax n fields x _ is.0 (each_filtered Identifier (λ y. is_captured y (stmts_uses ss)) (x ∷ []) (is.0, tt)) (stmts_syntax (field_inside fields (x ∷ []) n f) w (next_number fields n) false ss is.1)

  pub cases_syntax : (f : List ℕ → Option ℕ) (w : List ℕ → Bool) (n : ℕ) (cs : tree.Cases) → AreCases cs → AreCases (open_cases (opening f w) n cs)
  cases_syntax f w n no_cases is = tt
  cases_syntax f w n (then_case e ss cs) is = (maybe_syntax f w n e is.0, stmts_syntax f w (n + maybe_expr_scopes e) false ss is.1, cases_syntax f w ((n + maybe_expr_scopes e) + stmts_scopes ss) cs is.2)

-- ---- scripts

pub tops_syntax : (f : List ℕ → Option ℕ) (w : List ℕ → Bool) (n : ℕ) (ss : tree.Stmts) → AreStmts true ss → AreStmts true (open_tops (opening f w) n ss)
tops_syntax f w n no_stmts is = tt
tops_syntax f w n (then_stmt (function (code x formals body)) ss) is =
    let fields : List (List ℕ) = declaration_fields (code x formals body) in
    let inside : List ℕ → Option ℕ = fields_inside f n fields None x formals body in (
      (
        still_named x formals body _ is.0.0,
        (
          is.0.1.0,
          is.0.1.1,
          inside_syntax f n None x formals body (no_own x) is.0.1
              (declarations_syntax inside (λ y. is_among y fields) (next_number fields n) body is.0.1.2)
              (stmts_syntax inside (λ y. is_among y fields) (next_number fields n) true body is.0.1.2),
        ),
      ),
      tops_syntax f w (n + stmt_scopes (function (code x formals body))) ss is.1,
    )
tops_syntax f w n (then_stmt s ss) is =
    append_syntax true (open_stmt (opening f w) n s) (open_tops (opening f w) (n + stmt_scopes s) ss)
    (stmt_syntax f w n true s is.0) (tops_syntax f w (n + stmt_scopes s) ss is.1)

pub opened_is_syntax : (n : ℕ) (script : tree.Stmts) → IsSyntax script → IsSyntax (open_script n script)
opened_is_syntax n script is = tops_syntax (λ x. None) (λ x. false) n script is
