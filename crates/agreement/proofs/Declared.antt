-- What the opened body of a function declares (section 10.5): what the body itself does, but for the fields of the scope object.
use Rattle.std.proofs.Common.{◌≡◌, refl, sym, ap, ◌∙◌, ℕ, ◌+◌, Bool, true, false, ◌||◌, ◌&&◌, not, cond, filter, List, [], ◌∷◌, ◌++◌, Option, Some, None, is_some, bytes_eq, if◌then◌else◌, append_assoc}
use Rattle.std.proofs.lemmas.List.{append-nil}
use Rattle.std.proofs.lemmas.List.Elements.{filter-append}
use Rattle.std.proofs.lemmas.List.Folds.{list_any-append}
use Rattle.std.proofs.lemmas.Bool.{and_parts, or_left, or_right}
use Rattle.std.proofs.lemmas.Slice.Eq.{bytes_eq-Decides}
use Rattle.std.specs.List.{list_all}
use Rattle.code_table.specs.Declarations as held
use Rattle.code_table.specs.Declarations.{body_variables, case_variables, catch_variables, functions_of, init_names, stmt_variables, target_names, variables_of}
use Rattle.js_core.specs.Tree as tree
use Rattle.js_core.specs.Tree.{name, num, text, bool, null, this, list, literal, func, member, index, call, construct, unary, update, binary, logical_and, logical_or, conditional, assign, comma, no_exprs, then_expr, no_expr, one_expr, code, var, function, expr, empty, block, if_else, do_while, while, for, for_in, continue, break, return, throw, try, switch, no_stmts, then_stmt, no_body, one_body, no_declarators, then_declarator, no_init, init_var, init_expr, no_catch, one_catch, no_cases, then_case}
use Rattle.page_meaning.specs.Functions.{function_names}
use Rattle.scope_analysis.specs.Names as names
use Rattle.scope_analysis.specs.Names.{case_names, catch_names, declared_names, is_among, maybe_body_names, stmt_names}
use Rattle.instrumenter.specs.Around.{Around, append, as_init, as_statements, assignments, before_for, before_for_in, declared_name, field_or_name, in_clause, is_changed, next_number, opened_clause, opened_fields, opened_var, plain_names, single, target_is_field, var_of, var_where_any}
use Rattle.instrumenter.specs.Counting.{catch_scopes, expr_scopes, init_scopes, maybe_expr_scopes, stmt_scopes, stmts_scopes}
use Rattle.instrumenter.specs.Fields.{clause_fields}
use Rattle.instrumenter.specs.Opening.{open_cases, open_catch, open_declarations, open_declarators, open_expr, open_init, open_maybe, open_maybe_body, open_stmt, open_stmts, open_tops}

-- ---- declared functions

statements_passed : (es : tree.Exprs) (ss : tree.Stmts) → functions_of (append (as_statements es) ss) ≡ functions_of ss
statements_passed no_exprs ss = refl
statements_passed (then_expr e es) ss = statements_passed es ss

where_passed : (ds : tree.Declarators) (us ss : tree.Stmts) → functions_of (append us ss) ≡ functions_of ss → functions_of (append (var_where_any ds us) ss) ≡ functions_of ss
where_passed no_declarators us ss h = h
where_passed (then_declarator x e ds) us ss h = h

var_passed : (a : Around) (ds opened : tree.Declarators) (ss : tree.Stmts) → functions_of (append (opened_var a ds opened) ss) ≡ functions_of ss
var_passed a ds opened ss = by_case (is_changed a ds)
  where
    by_case : (b : Bool) → functions_of (append (if b then var_where_any (plain_names a ds) (as_statements (assignments a opened)) else single (var opened)) ss) ≡ functions_of ss
    by_case true = where_passed (plain_names a ds) (as_statements (assignments a opened)) ss (statements_passed (assignments a opened) ss)
    by_case false = refl

for_passed : (a : Around) (i : tree.ForInit) (us ss : tree.Stmts) → functions_of (append us ss) ≡ functions_of ss → functions_of (append (before_for a i us) ss) ≡ functions_of ss
for_passed a no_init us ss h = h
for_passed a (init_expr e) us ss h = h
for_passed a (init_var ds) us ss h = by_case (is_changed a ds)
  where
    by_case : (b : Bool) → functions_of (append (if b then var_where_any (plain_names a ds) us else us) ss) ≡ functions_of ss
    by_case true = where_passed (plain_names a ds) us ss h
    by_case false = h

for_in_passed : (a : Around) (declared : Bool) (t : tree.Expr) (us ss : tree.Stmts) → functions_of (append us ss) ≡ functions_of ss → functions_of (append (before_for_in a declared t us) ss) ≡ functions_of ss
for_in_passed a true (name x) us ss h = by_case (is_some (a.fields x) && not (a.own x))
  where
    by_case : (b : Bool) → functions_of (append (if b then then_stmt (var (then_declarator x no_expr no_declarators)) us else us) ss) ≡ functions_of ss
    by_case true = h
    by_case false = h
for_in_passed a declared t us ss h = h

abbrev pub is_function : tree.Stmt → Bool
is_function (function c) = true
is_function s = false

-- a statement is opened to no declarations of functions, if it is none, or scopes are opened
pub stmt_passed : (a : Around) (n : ℕ) (s : tree.Stmt) (ss : tree.Stmts) → (is_function s ≡ true → a.opens ≡ true) → functions_of (append (open_stmt a n s) ss) ≡ functions_of ss
stmt_passed a n (var ds) ss h = var_passed a ds (open_declarators a n ds) ss
stmt_passed a n (function c) ss h = ap (λ o. functions_of (append (if o then no_stmts else single (function c)) ss)) (h refl)
stmt_passed a n (expr e) ss h = refl
stmt_passed a n empty ss h = refl
stmt_passed a n (block us) ss h = refl
stmt_passed a n (if_else e p q) ss h = refl
stmt_passed a n (do_while body e) ss h = refl
stmt_passed a n (while e body) ss h = refl
stmt_passed a n (for i t s body) ss h = for_passed a i _ ss refl
stmt_passed a n (for_in declared t e body) ss h = for_in_passed a declared t _ ss refl
stmt_passed a n continue ss h = refl
stmt_passed a n break ss h = refl
stmt_passed a n (return e) ss h = refl
stmt_passed a n (throw e) ss h = refl
stmt_passed a n (try b c l) ss h = refl
stmt_passed a n (switch e cs) ss h = refl

pub stmts_passed : (a : Around) (n : ℕ) (ss : tree.Stmts) → a.opens ≡ true → functions_of (open_stmts a n ss) ≡ []
stmts_passed a n no_stmts h = refl
stmts_passed a n (then_stmt s ss) h = stmt_passed a n s (open_stmts a (n + stmt_scopes s) ss) (λ e. h) ∙ stmts_passed a (n + stmt_scopes s) ss h

named_passed : (a : Around) (x : List ℕ) (e : tree.Expr) (ss : tree.Stmts) → functions_of (then_stmt (declared_name a x e) ss) ≡ functions_of ss
named_passed a x e ss = by_case (a.own x)
  where
    by_case : (b : Bool) → functions_of (then_stmt (if b then expr (assign None (field_or_name (a.fields x) x) e) else var_of x e) ss) ≡ functions_of ss
    by_case true = refl
    by_case false = refl

-- nor are the declarations
pub declarations_passed : (a : Around) (n : ℕ) (ss us : tree.Stmts) → functions_of (append (open_declarations a n ss) us) ≡ functions_of us
declarations_passed a n no_stmts us = refl
declarations_passed a n (then_stmt (function (code None formals body)) ss) us = declarations_passed a (n + stmt_scopes (function (code None formals body))) ss us
declarations_passed a n (then_stmt (function (code (Some x) formals body)) ss) us =
    named_passed a x _ (append (open_declarations a (n + stmt_scopes (function (code (Some x) formals body))) ss) us)
    ∙ declarations_passed a (n + stmt_scopes (function (code (Some x) formals body))) ss us
declarations_passed a n (then_stmt s ss) us = declarations_passed a (n + stmt_scopes s) ss us

-- ---- variables

-- those that are no fields of the function
abbrev pub kept : Around → List (List ℕ) → List (List ℕ)
kept a xs = filter (λ x. not (a.own x)) xs

two_kept : (a : Around) (xs ys us vs : List (List ℕ)) → kept a xs ≡ kept a us → kept a ys ≡ kept a vs → kept a (xs ++ ys) ≡ kept a (us ++ vs)
two_kept a xs ys us vs h k =
    filter-append (λ x. not (a.own x)) xs ys ∙ (λ i. h i ++ k i) ∙ sym (filter-append (λ x. not (a.own x)) us vs)

last_kept : (a : Around) (xs us : List (List ℕ)) → kept a xs ≡ kept a us → kept a (xs ++ []) ≡ kept a us
last_kept a xs us h = ap (kept a) (append-nil xs) ∙ h

pub variables_append : (ss us : tree.Stmts) → variables_of (append ss us) ≡ variables_of ss ++ variables_of us
variables_append no_stmts us = refl
variables_append (then_stmt s ss) us = ap (λ xs. stmt_variables s ++ xs) (variables_append ss us) ∙ sym (append_assoc (stmt_variables s) (variables_of ss) (variables_of us))

pub statements_variables : (es : tree.Exprs) → variables_of (as_statements es) ≡ []
statements_variables no_exprs = refl
statements_variables (then_expr e es) = statements_variables es

pub init_variables : (es : tree.Exprs) → init_names (as_init es) ≡ []
init_variables no_exprs = refl
init_variables (then_expr e no_exprs) = refl
init_variables (then_expr e (then_expr u es)) = refl

pub opened_names : (a : Around) (n : ℕ) (ds : tree.Declarators) → held.declarator_names (open_declarators a n ds) ≡ held.declarator_names ds
opened_names a n no_declarators = refl
opened_names a n (then_declarator x e ds) = ap (λ xs. x ∷ xs) (opened_names a (n + maybe_expr_scopes e) ds)

plain_kept : (a : Around) (ds : tree.Declarators) → kept a (held.declarator_names (plain_names a ds)) ≡ kept a (held.declarator_names ds)
plain_kept a no_declarators = refl
plain_kept a (then_declarator x e ds) = by_case (a.own x) refl (plain_kept a ds)
  where
    by_case : (b : Bool) → a.own x ≡ b → kept a (held.declarator_names (plain_names a ds)) ≡ kept a (held.declarator_names ds)
        → kept a (held.declarator_names (if b then plain_names a ds else then_declarator x no_expr (plain_names a ds))) ≡ cond (not (a.own x)) (x ∷ kept a (held.declarator_names ds)) (kept a (held.declarator_names ds))
    by_case true e h = rw e h
    by_case false e h = rw e (ap (λ xs. x ∷ xs) h)

where_variables : (ds : tree.Declarators) (ss : tree.Stmts) → variables_of (var_where_any ds ss) ≡ held.declarator_names ds ++ variables_of ss
where_variables no_declarators ss = refl
where_variables (then_declarator x e ds) ss = refl

var_kept : (a : Around) (n : ℕ) (ds : tree.Declarators) → kept a (variables_of (opened_var a ds (open_declarators a n ds))) ≡ kept a (held.declarator_names ds)
var_kept a n ds = by_case (is_changed a ds)
  where
    es : tree.Exprs
    es = assignments a (open_declarators a n ds)

    by_case : (b : Bool) → kept a (variables_of (if b then var_where_any (plain_names a ds) (as_statements es) else single (var (open_declarators a n ds)))) ≡ kept a (held.declarator_names ds)
    by_case true =
        ap (kept a) (where_variables (plain_names a ds) (as_statements es) ∙ ap (λ xs. held.declarator_names (plain_names a ds) ++ xs) (statements_variables es))
        ∙ last_kept a (held.declarator_names (plain_names a ds)) (held.declarator_names ds) (plain_kept a ds)
    by_case false = last_kept a (held.declarator_names (open_declarators a n ds)) (held.declarator_names ds) (ap (kept a) (opened_names a n ds))

-- a `for`, whose body has these variables
for_kept : (a : Around) (n : ℕ) (i : tree.ForInit) (t s : tree.MaybeExpr) (body : tree.Stmts) (xs : List (List ℕ)) → kept a (variables_of body) ≡ kept a xs
    → kept a (variables_of (before_for a i (single (for (open_init a n i) t s body)))) ≡ kept a (init_names i ++ xs)
for_kept a n no_init t s body xs h = last_kept a (variables_of body) xs h
for_kept a n (init_expr e) t s body xs h = last_kept a (variables_of body) xs h
for_kept a n (init_var ds) t s body xs h = by_case (is_changed a ds)
  where
    es : tree.Exprs
    es = assignments a (open_declarators a n ds)

    by_case : (b : Bool)
        → kept a (variables_of (if b then var_where_any (plain_names a ds) (single (for (if b then as_init es else init_var (open_declarators a n ds)) t s body)) else single (for (if b then as_init es else init_var (open_declarators a n ds)) t s body)))
        ≡ kept a (held.declarator_names ds ++ xs)
    by_case true =
        ap (kept a) (where_variables (plain_names a ds) (single (for (as_init es) t s body)))
        ∙ two_kept a (held.declarator_names (plain_names a ds)) ((init_names (as_init es) ++ variables_of body) ++ []) (held.declarator_names ds) xs (plain_kept a ds)
        (last_kept a (init_names (as_init es) ++ variables_of body) xs (ap (λ ys. kept a (ys ++ variables_of body)) (init_variables es) ∙ h))
    by_case false =
        last_kept a (held.declarator_names (open_declarators a n ds) ++ variables_of body) (held.declarator_names ds ++ xs)
        (two_kept a (held.declarator_names (open_declarators a n ds)) (variables_of body) (held.declarator_names ds) xs (ap (kept a) (opened_names a n ds)) h)

single_name : (a : Around) (x : List ℕ) (xs ys : List (List ℕ)) → a.own x ≡ true → kept a xs ≡ kept a ys → kept a xs ≡ kept a (x ∷ ys)
single_name a x xs ys own h = h ∙ sym (ap (λ b. cond (not b) (x ∷ kept a ys) (kept a ys)) own)

-- a for-in, whose body has these variables
for_in_kept : (a : Around) (n : ℕ) (declared : Bool) (t e : tree.Expr) (body : tree.Stmts) (xs : List (List ℕ)) → kept a (variables_of body) ≡ kept a xs
    → kept a (variables_of (before_for_in a declared t (single (for_in (declared && not (target_is_field a t)) (open_expr a n t) e body)))) ≡ kept a (target_names declared t ++ xs)
for_in_kept a n true (name x) e body xs h = by_case (a.fields x) (a.own x) refl
  where
    whole : Option ℕ → tree.Stmt
    whole o = for_in (not (is_some o)) (field_or_name o x) e body

    by_case : (o : Option ℕ) (b : Bool) → a.own x ≡ b
        → kept a (variables_of (if is_some o && not b then then_stmt (var (then_declarator x no_expr no_declarators)) (single (whole o)) else single (whole o))) ≡ kept a (x ∷ xs)
    by_case None b q = last_kept a (x ∷ variables_of body) (x ∷ xs) (two_kept a (x ∷ []) (variables_of body) (x ∷ []) xs refl h)
    by_case (Some m) true q = last_kept a (variables_of body) (x ∷ xs) (single_name a x (variables_of body) xs q h)
    by_case (Some m) false q = two_kept a (x ∷ []) (variables_of body ++ []) (x ∷ []) xs refl (last_kept a (variables_of body) xs h)
for_in_kept a n false (name x) e body xs h = last_kept a (variables_of body) xs h
for_in_kept a n true (func (code x formals us)) e body xs h = last_kept a (variables_of body) xs h
for_in_kept a n false (func (code x formals us)) e body xs h = last_kept a (variables_of body) xs h
for_in_kept a n true t e body xs h = last_kept a (variables_of body) xs h
for_in_kept a n false t e body xs h = last_kept a (variables_of body) xs h

clause_kept : (a : Around) (n : ℕ) (F : List (List ℕ)) (x : List ℕ) (us : tree.Stmts) (xs : List (List ℕ)) → kept a (variables_of us) ≡ kept a xs
    → kept a (catch_variables (opened_clause n F x us)) ≡ kept a xs
clause_kept a n [] x us xs h = h
clause_kept a n (y ∷ ys) x us xs h = h

mutual
  pub stmt_kept : (a : Around) (n : ℕ) (s : tree.Stmt) → kept a (variables_of (open_stmt a n s)) ≡ kept a (stmt_variables s)
  stmt_kept a n (var ds) = var_kept a n ds
  stmt_kept a n (function c) = by_case a.opens
    where
      by_case : (b : Bool) → kept a (variables_of (if b then no_stmts else single (function c))) ≡ []
      by_case true = refl
      by_case false = refl
  stmt_kept a n (expr e) = refl
  stmt_kept a n empty = refl
  stmt_kept a n (block ss) = last_kept a _ (variables_of ss) (stmts_kept a n ss)
  stmt_kept a n (if_else e p q) =
      let m = n + expr_scopes e in
      last_kept a _ (variables_of p ++ body_variables q)
      (two_kept a (variables_of (open_stmts a m p)) (body_variables (open_maybe_body a (m + stmts_scopes p) q)) (variables_of p) (body_variables q) (stmts_kept a m p) (maybe_body_kept a (m + stmts_scopes p) q))
  stmt_kept a n (do_while body e) = last_kept a _ (variables_of body) (stmts_kept a n body)
  stmt_kept a n (while e body) = last_kept a _ (variables_of body) (stmts_kept a (n + expr_scopes e) body)
  stmt_kept a n (for i t s body) =
      let m = n + init_scopes i in
      let k = m + maybe_expr_scopes t in
      let o = k + maybe_expr_scopes s in
      for_kept a n i (open_maybe a m t) (open_maybe a k s) (open_stmts a o body) (variables_of body) (stmts_kept a o body)
  stmt_kept a n (for_in declared t e body) =
      let m = n + expr_scopes t in
      for_in_kept a n declared t (open_expr a m e) (open_stmts a (m + expr_scopes e) body) (variables_of body) (stmts_kept a (m + expr_scopes e) body)
  stmt_kept a n continue = refl
  stmt_kept a n break = refl
  stmt_kept a n (return e) = refl
  stmt_kept a n (throw e) = refl
  stmt_kept a n (try b c l) =
      let m = n + stmts_scopes b in
      let o = m + catch_scopes c in
      last_kept a _ (variables_of b ++ (catch_variables c ++ body_variables l))
      (two_kept a (variables_of (open_stmts a n b)) (catch_variables (open_catch a m c) ++ body_variables (open_maybe_body a o l)) (variables_of b) (catch_variables c ++ body_variables l) (stmts_kept a n b)
      (two_kept a (catch_variables (open_catch a m c)) (body_variables (open_maybe_body a o l)) (catch_variables c) (body_variables l) (catch_kept a m c) (maybe_body_kept a o l)))
  stmt_kept a n (switch e cs) = last_kept a _ (case_variables cs) (cases_kept a (n + expr_scopes e) cs)

  pub stmts_kept : (a : Around) (n : ℕ) (ss : tree.Stmts) → kept a (variables_of (open_stmts a n ss)) ≡ kept a (variables_of ss)
  stmts_kept a n no_stmts = refl
  stmts_kept a n (then_stmt s ss) =
      let m = n + stmt_scopes s in
      ap (kept a) (variables_append (open_stmt a n s) (open_stmts a m ss))
      ∙ two_kept a (variables_of (open_stmt a n s)) (variables_of (open_stmts a m ss)) (stmt_variables s) (variables_of ss) (stmt_kept a n s) (stmts_kept a m ss)

  maybe_body_kept : (a : Around) (n : ℕ) (ss : tree.MaybeStmts) → kept a (body_variables (open_maybe_body a n ss)) ≡ kept a (body_variables ss)
  maybe_body_kept a n no_body = refl
  maybe_body_kept a n (one_body ss) = stmts_kept a n ss

  catch_kept : (a : Around) (n : ℕ) (c : tree.MaybeCatch) → kept a (catch_variables (open_catch a n c)) ≡ kept a (catch_variables c)
  catch_kept a n no_catch = refl
  catch_kept a n (one_catch x ss) =
      let F = opened_fields a.opens (clause_fields x ss) in
      clause_kept a n F x (open_stmts (in_clause a n F x) (next_number F n) ss) (variables_of ss) (stmts_kept (in_clause a n F x) (next_number F n) ss)

  cases_kept : (a : Around) (n : ℕ) (cs : tree.Cases) → kept a (case_variables (open_cases a n cs)) ≡ kept a (case_variables cs)
  cases_kept a n no_cases = refl
  cases_kept a n (then_case e ss cs) =
      let m = n + maybe_expr_scopes e in
      two_kept a (variables_of (open_stmts a m ss)) (case_variables (open_cases a (m + stmts_scopes ss) cs)) (variables_of ss) (case_variables cs) (stmts_kept a m ss) (cases_kept a (m + stmts_scopes ss) cs)

-- the names of the declared functions become variables
named_kept : (a : Around) (x : List ℕ) (e : tree.Expr) (ss : tree.Stmts) (xs : List (List ℕ)) → kept a (variables_of ss) ≡ kept a xs → kept a (variables_of (then_stmt (declared_name a x e) ss)) ≡ kept a (x ∷ xs)
named_kept a x e ss xs h = by_case (a.own x) refl
  where
    by_case : (b : Bool) → a.own x ≡ b → kept a (variables_of (then_stmt (if b then expr (assign None (field_or_name (a.fields x) x) e) else var_of x e) ss)) ≡ kept a (x ∷ xs)
    by_case true q = single_name a x (variables_of ss) xs q h
    by_case false q = two_kept a (x ∷ []) (variables_of ss) (x ∷ []) xs refl h

pub declarations_kept : (a : Around) (n : ℕ) (ss : tree.Stmts) → kept a (variables_of (open_declarations a n ss)) ≡ kept a (function_names (functions_of ss))
declarations_kept a n no_stmts = refl
declarations_kept a n (then_stmt (function (code None formals body)) ss) = declarations_kept a (n + stmt_scopes (function (code None formals body))) ss
declarations_kept a n (then_stmt (function (code (Some x) formals body)) ss) =
    named_kept a x _ (open_declarations a (n + stmt_scopes (function (code (Some x) formals body))) ss) (function_names (functions_of ss)) (declarations_kept a (n + stmt_scopes (function (code (Some x) formals body))) ss)
declarations_kept a n (then_stmt s ss) = declarations_kept a (n + stmt_scopes s) ss

-- ---- a name among others

pub kept_among : (a : Around) (x : List ℕ) (xs : List (List ℕ)) → a.own x ≡ false → is_among x (kept a xs) ≡ is_among x xs
kept_among a x [] own = refl
kept_among a x (y ∷ ys) own = by_case (a.own y) refl (bytes_eq x y) refl (kept_among a x ys own)
  where
    by_case : (b : Bool) → a.own y ≡ b → (c : Bool) → bytes_eq x y ≡ c → is_among x (kept a ys) ≡ is_among x ys → is_among x (cond (not b) (y ∷ kept a ys) (kept a ys)) ≡ (c || is_among x ys)
    by_case false e c q h = rw q (ap (λ t. c || t) h)
    by_case true e false q h = h
    by_case true e true q h =
        let same : x ≡ y = (bytes_eq-Decides x y).0 q in
        let wrong : true ≡ false = sym e ∙ ap a.own (sym same) ∙ own in
        absurd (cc wrong)

-- the variables of an opened body, but for its fields
pub body_among : (a : Around) (n : ℕ) (ss : tree.Stmts) (x : List ℕ) → a.own x ≡ false
    → is_among x (variables_of (append (open_declarations a n ss) (open_stmts a n ss))) ≡ (is_among x (function_names (functions_of ss)) || is_among x (variables_of ss))
body_among a n ss x own =
    ap (is_among x) (variables_append (open_declarations a n ss) (open_stmts a n ss))
    ∙ list_any-append (bytes_eq x) (variables_of (open_declarations a n ss)) (variables_of (open_stmts a n ss))
    ∙ (λ i. same (variables_of (open_declarations a n ss)) (function_names (functions_of ss)) (declarations_kept a n ss) i || same (variables_of (open_stmts a n ss)) (variables_of ss) (stmts_kept a n ss) i)
  where
    same : (xs ys : List (List ℕ)) → kept a xs ≡ kept a ys → is_among x xs ≡ is_among x ys
    same xs ys h = sym (kept_among a x xs own) ∙ ap (is_among x) h ∙ kept_among a x ys own

-- ---- what a body declares

pub left_among : (x : List ℕ) (xs ys : List (List ℕ)) → is_among x xs ≡ true → is_among x (xs ++ ys) ≡ true
left_among x xs ys h = list_any-append (bytes_eq x) xs ys ∙ or_left (is_among x xs) (is_among x ys) h

pub right_among : (x : List ℕ) (xs ys : List (List ℕ)) → is_among x ys ≡ true → is_among x (xs ++ ys) ≡ true
right_among x xs ys h = list_any-append (bytes_eq x) xs ys ∙ or_right (is_among x xs) (is_among x ys) h

-- of two lists, one has it
pub either_among : (x : List ℕ) (xs ys : List (List ℕ)) {P : Type 0} → is_among x (xs ++ ys) ≡ true → (is_among x xs ≡ true → P) → (is_among x ys ≡ true → P) → P
either_among x xs ys {P = P} h one two = by_case (is_among x xs) refl (sym (list_any-append (bytes_eq x) xs ys) ∙ h)
  where
    by_case : (b : Bool) → is_among x xs ≡ b → (b || is_among x ys) ≡ true → P
    by_case true e k = one e
    by_case false e k = two k

both_among : (x : List ℕ) (xs ys us vs : List (List ℕ)) → (is_among x xs ≡ true → is_among x us ≡ true) → (is_among x ys ≡ true → is_among x vs ≡ true) → is_among x (xs ++ ys) ≡ true → is_among x (us ++ vs) ≡ true
both_among x xs ys us vs one two h = either_among x xs ys h (λ e. left_among x us vs (one e)) (λ e. right_among x us vs (two e))

declarators_same : (ds : tree.Declarators) → held.declarator_names ds ≡ names.declarator_names ds
declarators_same no_declarators = refl
declarators_same (then_declarator x e ds) = ap (λ xs. x ∷ xs) (declarators_same ds)

init_same : (i : tree.ForInit) → init_names i ≡ names.init_names i
init_same no_init = refl
init_same (init_var ds) = declarators_same ds
init_same (init_expr e) = refl

target_same : (declared : Bool) (t : tree.Expr) → target_names declared t ≡ names.target_names declared t
target_same true (name x) = refl
target_same true t = refl
target_same false t = refl

-- variables are declared names
mutual
  stmt_declared : (x : List ℕ) (s : tree.Stmt) → is_among x (stmt_variables s) ≡ true → is_among x (stmt_names s) ≡ true
  stmt_declared x (var ds) h = ap (is_among x) (sym (declarators_same ds)) ∙ h
  stmt_declared x (function c) h = absurd (cc h)
  stmt_declared x (expr e) h = absurd (cc h)
  stmt_declared x empty h = absurd (cc h)
  stmt_declared x (block ss) h = stmts_declared x ss h
  stmt_declared x (if_else e a b) h = both_among x (variables_of a) (body_variables b) (declared_names a) (maybe_body_names b) (stmts_declared x a) (maybe_body_declared x b) h
  stmt_declared x (do_while a e) h = stmts_declared x a h
  stmt_declared x (while e a) h = stmts_declared x a h
  stmt_declared x (for i t s a) h = both_among x (init_names i) (variables_of a) (names.init_names i) (declared_names a) (λ q. ap (is_among x) (sym (init_same i)) ∙ q) (stmts_declared x a) h
  stmt_declared x (for_in declared t e a) h =
      both_among x (target_names declared t) (variables_of a) (names.target_names declared t) (declared_names a) (λ q. ap (is_among x) (sym (target_same declared t)) ∙ q) (stmts_declared x a) h
  stmt_declared x continue h = absurd (cc h)
  stmt_declared x break h = absurd (cc h)
  stmt_declared x (return e) h = absurd (cc h)
  stmt_declared x (throw e) h = absurd (cc h)
  stmt_declared x (try a c l) h =
      both_among x (variables_of a) (catch_variables c ++ body_variables l) (declared_names a) (catch_names c ++ maybe_body_names l) (stmts_declared x a)
      (both_among x (catch_variables c) (body_variables l) (catch_names c) (maybe_body_names l) (catch_declared x c) (maybe_body_declared x l)) h
  stmt_declared x (switch e cs) h = cases_declared x cs h

  pub stmts_declared : (x : List ℕ) (ss : tree.Stmts) → is_among x (variables_of ss) ≡ true → is_among x (declared_names ss) ≡ true
  stmts_declared x no_stmts h = h
  stmts_declared x (then_stmt s ss) h = both_among x (stmt_variables s) (variables_of ss) (stmt_names s) (declared_names ss) (stmt_declared x s) (stmts_declared x ss) h

  maybe_body_declared : (x : List ℕ) (ss : tree.MaybeStmts) → is_among x (body_variables ss) ≡ true → is_among x (maybe_body_names ss) ≡ true
  maybe_body_declared x no_body h = h
  maybe_body_declared x (one_body ss) h = stmts_declared x ss h

  catch_declared : (x : List ℕ) (c : tree.MaybeCatch) → is_among x (catch_variables c) ≡ true → is_among x (catch_names c) ≡ true
  catch_declared x no_catch h = h
  catch_declared x (one_catch y ss) h = stmts_declared x ss h

  cases_declared : (x : List ℕ) (cs : tree.Cases) → is_among x (case_variables cs) ≡ true → is_among x (case_names cs) ≡ true
  cases_declared x no_cases h = h
  cases_declared x (then_case e ss cs) h = both_among x (variables_of ss) (case_variables cs) (declared_names ss) (case_names cs) (stmts_declared x ss) (cases_declared x cs) h

-- so are the names of declared functions
pub functions_declared : (x : List ℕ) (ss : tree.Stmts) → is_among x (function_names (functions_of ss)) ≡ true → is_among x (declared_names ss) ≡ true
functions_declared x no_stmts h = h
functions_declared x (then_stmt (function (code None formals body)) ss) h = functions_declared x ss h
functions_declared x (then_stmt (function (code (Some y) formals body)) ss) h =
    both_among x (y ∷ []) (function_names (functions_of ss)) (y ∷ []) (declared_names ss) (λ q. q) (functions_declared x ss) h
functions_declared x (then_stmt s ss) h = right_among x (stmt_names s) (declared_names ss) (functions_declared x ss h)

-- what holds of all holds of each
pub all_among : (p : List ℕ → Bool) (x : List ℕ) (xs : List (List ℕ)) → list_all p xs ≡ true → is_among x xs ≡ true → p x ≡ true
all_among p x [] h i = absurd (cc i)
all_among p x (y ∷ ys) h i =
    let both = and_parts (p y) (list_all p ys) h in
    by_case (bytes_eq x y) refl i both.0 (λ k. all_among p x ys both.1 k)
  where
    by_case : (b : Bool) → bytes_eq x y ≡ b → (b || is_among x ys) ≡ true → p y ≡ true → (is_among x ys ≡ true → p x ≡ true) → p x ≡ true
    by_case true e k one rest = ap p ((bytes_eq-Decides x y).0 e) ∙ one
    by_case false e k one rest = rest k

-- ---- the top of a script

pub tops_passed : (a : Around) (n : ℕ) (s : tree.Stmt) (ss : tree.Stmts) → is_function s ≡ false → functions_of (append (open_stmt a n s) ss) ≡ functions_of ss
tops_passed a n s ss h = stmt_passed a n s ss (λ e. absurd (cc (sym e ∙ h)))

tops_kept : (a : Around) (n : ℕ) (ss : tree.Stmts) → kept a (variables_of (open_tops a n ss)) ≡ kept a (variables_of ss)
tops_kept a n no_stmts = refl
tops_kept a n (then_stmt (function (code x formals body)) ss) = tops_kept a (n + stmt_scopes (function (code x formals body))) ss
tops_kept a n (then_stmt s ss) =
    let m = n + stmt_scopes s in
    ap (kept a) (variables_append (open_stmt a n s) (open_tops a m ss))
    ∙ two_kept a (variables_of (open_stmt a n s)) (variables_of (open_tops a m ss)) (stmt_variables s) (variables_of ss) (stmt_kept a n s) (tops_kept a m ss)

all_kept : (a : Around) (xs : List (List ℕ)) → ((x : List ℕ) → a.own x ≡ false) → kept a xs ≡ xs
all_kept a [] h = refl
all_kept a (x ∷ xs) h = rw (h x) (ap (λ ys. x ∷ ys) (all_kept a xs h))

-- where no function is round, the variables stay
pub tops_variables : (a : Around) (n : ℕ) (ss : tree.Stmts) → ((x : List ℕ) → a.own x ≡ false) → variables_of (open_tops a n ss) ≡ variables_of ss
tops_variables a n ss h = sym (all_kept a (variables_of (open_tops a n ss)) h) ∙ tops_kept a n ss ∙ all_kept a (variables_of ss) h
