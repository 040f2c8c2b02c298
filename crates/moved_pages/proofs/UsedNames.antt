-- Each name that a tree uses is an identifier, where tokens have the tree; so are the names of what a function needs.
use Rattle.std.proofs.Common.{◌≡◌, refl, ◌∙◌, ℕ, Bool, true, false, cond, List, [], ◌∷◌, ◌++◌, bytes_eq, filter, map, if◌then◌else◌}
use Rattle.std.specs.List.{list_all}
use Rattle.std.proofs.lemmas.Bool.{and_from, and_parts}
use Rattle.std.proofs.lemmas.List.Folds.{list_all-append}
use Rattle.indexmap.specs.IndexSet.{insert_all, insert_key}
use Rattle.js_core.specs.Tree as tree
use Rattle.js_core.specs.Tree.{name, num, text, bool, null, this, list, literal, func, member, index, call, construct, unary, update, binary, logical_and, logical_or, conditional, assign, comma, no_exprs, then_expr, no_expr, one_expr, no_holes, then_hole, no_fields, then_field, code, var, function, expr, empty, block, if_else, do_while, while, for, for_in, continue, break, return, throw, try, switch, no_stmts, then_stmt, no_body, one_body, no_declarators, then_declarator, no_init, init_var, init_expr, no_catch, one_catch, no_cases, then_case}
use Rattle.js_grammar.specs.Syntax.{AreCases, AreDeclarators, AreExprs, AreFields, AreHoles, AreStmts, IsExpr, IsInit, IsMaybeBody, IsMaybeCatch, IsMaybeExpr, IsStmt, is_identifier}
use Rattle.scope_analysis.specs.Needs.{needed_variables}
use Rattle.scope_analysis.specs.Identifiers.{is_reserved}
use Rattle.scope_analysis.specs.Names.{bound_names, is_among, maybe_name}
use Rattle.scope_analysis.specs.Uses.{Use, cases_uses, catch_uses, crossing, declarator_uses, declarators_uses, expr_uses, exprs_uses, fields_uses, holes_uses, init_uses, leaving_clause, leaving_function, maybe_expr_uses, maybe_stmts_uses, stmt_uses, stmts_uses, target_uses}

-- ---- uses

abbrev pub are_named : List Use → Bool
are_named us = list_all (λ u. is_identifier u.name) us

both : (us vs : List Use) → are_named us ≡ true → are_named vs ≡ true → are_named (us ++ vs) ≡ true
both us vs f g = list_all-append (λ u. is_identifier u.name) us vs ∙ and_from (are_named us) (are_named vs) f g

left_named : (bound : List (List ℕ)) (us : List Use) → are_named us ≡ true → are_named (leaving_function bound us) ≡ true
left_named bound [] h = refl
left_named bound (u ∷ us) h =
    let parts = and_parts (is_identifier u.name) (are_named us) h in
    by (is_among u.name bound) parts.0 (left_named bound us parts.1)
  where
    by : (b : Bool) → is_identifier u.name ≡ true → are_named (leaving_function bound us) ≡ true
        → are_named (if b then leaving_function bound us else (crossing u ∷ leaving_function bound us)) ≡ true
    by true own others = others
    by false own others = and_from (is_identifier u.name) (are_named (leaving_function bound us)) own others

clause_named : (x : List ℕ) (us : List Use) → are_named us ≡ true → are_named (leaving_clause x us) ≡ true
clause_named x [] h = refl
clause_named x (u ∷ us) h =
    let parts = and_parts (is_identifier u.name) (are_named us) h in
    by (bytes_eq u.name x) parts.0 (clause_named x us parts.1)
  where
    by : (b : Bool) → is_identifier u.name ≡ true → are_named (leaving_clause x us) ≡ true
        → are_named (if b then leaving_clause x us else (u ∷ leaving_clause x us)) ≡ true
    by true own others = others
    by false own others = and_from (is_identifier u.name) (are_named (leaving_clause x us)) own others

-- ---- trees

target_named : (e : tree.Expr) → IsExpr e → are_named (expr_uses e) ≡ true → are_named (target_uses e (expr_uses e)) ≡ true
target_named (name x) is h = h
target_named e is h = h

mutual
  pub expr_named : (e : tree.Expr) → IsExpr e → are_named (expr_uses e) ≡ true
  expr_named (name x) h = and_from (is_identifier x) true h refl
  expr_named (num n) h = refl
  expr_named (text x) h = refl
  expr_named (bool b) h = refl
  expr_named null h = refl
  expr_named this h = refl
  expr_named (list es) h = holes_named es h
  expr_named (literal es) h = fields_named es h
  expr_named (func (code x formals body)) h =
      left_named (maybe_name x ++ bound_names (code x formals body)) (stmts_uses body) (stmts_named true body h.2)
  expr_named (member e x) h = expr_named e h.0
  expr_named (index a b) h = both _ _ (expr_named a h.0) (expr_named b h.1)
  expr_named (call e es) h = both _ _ (expr_named e h.0) (exprs_named es h.1)
  expr_named (construct e es) h = both _ _ (expr_named e h.0) (exprs_named es h.1)
  expr_named (unary op a) h = expr_named a h
  expr_named (update up prefix a) h = target_named a h (expr_named a h)
  expr_named (binary op a b) h = both _ _ (expr_named a h.0) (expr_named b h.1)
  expr_named (logical_and a b) h = both _ _ (expr_named a h.0) (expr_named b h.1)
  expr_named (logical_or a b) h = both _ _ (expr_named a h.0) (expr_named b h.1)
  expr_named (conditional a b c) h = both _ _ (expr_named a h.0) (both _ _ (expr_named b h.1) (expr_named c h.2))
  expr_named (assign op a b) h = both _ _ (target_named a h.1 (expr_named a h.1)) (expr_named b h.2)
  expr_named (comma es) h = exprs_named es h.1

  exprs_named : (es : tree.Exprs) → AreExprs es → are_named (exprs_uses es) ≡ true
  exprs_named no_exprs h = refl
  exprs_named (then_expr e es) h = both _ _ (expr_named e h.0) (exprs_named es h.1)

  maybe_named : (e : tree.MaybeExpr) → IsMaybeExpr e → are_named (maybe_expr_uses e) ≡ true
  maybe_named no_expr h = refl
  maybe_named (one_expr e) h = expr_named e h

  holes_named : (es : tree.Holes) → AreHoles es → are_named (holes_uses es) ≡ true
  holes_named no_holes h = refl
  holes_named (then_hole e es) h = both _ _ (maybe_named e h.0) (holes_named es h.1)

  fields_named : (es : tree.Fields) → AreFields es → are_named (fields_uses es) ≡ true
  fields_named no_fields h = refl
  fields_named (then_field x e es) h = both _ _ (expr_named e h.1) (fields_named es h.2)

  stmt_named : (top : Bool) (s : tree.Stmt) → IsStmt top s → are_named (stmt_uses s) ≡ true
  stmt_named top (var ds) h = declarators_named ds h.1
  stmt_named top (function (code x formals body)) h = left_named (bound_names (code x formals body)) (stmts_uses body) (stmts_named true body h.1.2)
  stmt_named top (expr e) h = expr_named e h
  stmt_named top empty h = refl
  stmt_named top (block ss) h = stmts_named false ss h
  stmt_named top (if_else e a b) h = both _ _ (expr_named e h.0) (both _ _ (stmts_named false a h.1) (body_named b h.2))
  stmt_named top (do_while body e) h = both _ _ (stmts_named false body h.0) (expr_named e h.1)
  stmt_named top (while e body) h = both _ _ (expr_named e h.0) (stmts_named false body h.1)
  stmt_named top (for i t s body) h =
      both _ _ (init_named i h.0) (both _ _ (maybe_named t h.1) (both _ _ (maybe_named s h.2) (stmts_named false body h.3)))
  stmt_named top (for_in declared t e body) h =
      both _ _ (target_named t h.1 (expr_named t h.1)) (both _ _ (expr_named e h.2) (stmts_named false body h.3))
  stmt_named top continue h = refl
  stmt_named top break h = refl
  stmt_named top (return e) h = maybe_named e h
  stmt_named top (throw e) h = expr_named e h
  stmt_named top (try b c l) h = both _ _ (stmts_named false b h.1) (both _ _ (catch_named c h.2) (body_named l h.3))
  stmt_named top (switch e cs) h = both _ _ (expr_named e h.0) (cases_named cs h.2)

  stmts_named : (top : Bool) (ss : tree.Stmts) → AreStmts top ss → are_named (stmts_uses ss) ≡ true
  stmts_named top no_stmts h = refl
  stmts_named top (then_stmt s ss) h = both _ _ (stmt_named top s h.0) (stmts_named top ss h.1)

  body_named : (ss : tree.MaybeStmts) → IsMaybeBody ss → are_named (maybe_stmts_uses ss) ≡ true
  body_named no_body h = refl
  body_named (one_body ss) h = stmts_named false ss h

  declarators_named : (ds : tree.Declarators) → AreDeclarators ds → are_named (declarators_uses ds) ≡ true
  declarators_named no_declarators h = refl
  declarators_named (then_declarator x e ds) h = both _ _ (declarator_named x e h.0 h.1) (declarators_named ds h.2)

  declarator_named : (x : List ℕ) (e : tree.MaybeExpr) → is_identifier x ≡ true → IsMaybeExpr e → are_named (declarator_uses x e) ≡ true
  declarator_named x no_expr own h = refl
  declarator_named x (one_expr e) own h = and_from (is_identifier x) (are_named (expr_uses e)) own (expr_named e h)

  init_named : (i : tree.ForInit) → IsInit i → are_named (init_uses i) ≡ true
  init_named no_init h = refl
  init_named (init_var ds) h = declarators_named ds h.1
  init_named (init_expr e) h = expr_named e h

  catch_named : (c : tree.MaybeCatch) → IsMaybeCatch c → are_named (catch_uses c) ≡ true
  catch_named no_catch h = refl
  catch_named (one_catch x ss) h = clause_named x (stmts_uses ss) (stmts_named false ss h.1)

  cases_named : (cs : tree.Cases) → AreCases cs → are_named (cases_uses cs) ≡ true
  cases_named no_cases h = refl
  cases_named (then_case e ss cs) h = both _ _ (maybe_named e h.0) (both _ _ (stmts_named false ss h.1) (cases_named cs h.2))

-- ---- what a function needs

abbrev are_identifiers : List (List ℕ) → Bool
are_identifiers xs = list_all is_identifier xs

names_of : (us : List Use) → are_named us ≡ true → are_identifiers (map (λ u. u.name) us) ≡ true
names_of [] h = refl
names_of (u ∷ us) h =
    let parts = and_parts (is_identifier u.name) (are_named us) h in
    and_from (is_identifier u.name) (are_identifiers (map (λ u. u.name) us)) parts.0 (names_of us parts.1)

some_of : (p : List ℕ → Bool) (xs : List (List ℕ)) → are_identifiers xs ≡ true → are_identifiers (filter p xs) ≡ true
some_of p [] h = refl
some_of p (x ∷ xs) h =
    let parts = and_parts (is_identifier x) (are_identifiers xs) h in
    by (p x) parts.0 (some_of p xs parts.1)
  where
    by : (b : Bool) → is_identifier x ≡ true → are_identifiers (filter p xs) ≡ true
        → are_identifiers (cond b (x ∷ filter p xs) (filter p xs)) ≡ true
    by true own others = and_from (is_identifier x) (are_identifiers (filter p xs)) own others
    by false own others = others

one_more : (ks : List (List ℕ)) (x : List ℕ) → are_identifiers ks ≡ true → is_identifier x ≡ true
    → are_identifiers (insert_key bytes_eq ks x) ≡ true
one_more ks x all own = by (is_among x ks)
  where
    by : (b : Bool) → are_identifiers (if b then ks else (ks ++ x ∷ [])) ≡ true
    by true = all
    by false =
        list_all-append is_identifier ks (x ∷ [])
        ∙ and_from (are_identifiers ks) (are_identifiers (x ∷ [])) all (and_from (is_identifier x) true own refl)

all_more : (ks xs : List (List ℕ)) → are_identifiers ks ≡ true → are_identifiers xs ≡ true → are_identifiers (insert_all bytes_eq ks xs) ≡ true
all_more ks [] all h = all
all_more ks (x ∷ xs) all h =
    let parts = and_parts (is_identifier x) (are_identifiers xs) h in
    all_more (insert_key bytes_eq ks x) xs (one_more ks x all parts.0) parts.1

pub needed_named : (c : tree.Code) → IsExpr (func c) → list_all is_identifier (needed_variables c) ≡ true
needed_named c h =
    let names : List (List ℕ) = map (λ u. u.name) (expr_uses (func c)) in
    all_more [] (filter is_reserved names) refl (some_of is_reserved names (names_of (expr_uses (func c)) (expr_named (func c) h)))
