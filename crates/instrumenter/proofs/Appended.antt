-- Lists of statements, one behind another.
use Rattle.std.proofs.Common.{◌≡◌, ◌∙◌, ℕ, ◌+◌, ◌<◌, Bool, true, false, not, ◌&&◌, ◌||◌, List, [], ◌∷◌, ◌++◌, length, Option, Some, None, is_some, option_map, if◌then◌else◌, ap, refl, arith}
use Rattle.js_core.specs.Tree as tree
use Rattle.js_core.specs.Tree.{assign, code, comma, expr, exprs_of, fields_of, function, holes_of, init_expr, init_var, maybe_expr, name, no_cases, no_declarators, no_expr, no_init, no_stmts, stmts_of, then_case, then_declarator, then_expr, then_field, then_hole, then_stmt, var}
use Rattle.js_core.specs.Views.{cases_of, declarators_of}
use Rattle.js_core.specs.declared.syntax.Case.{Case}
use Rattle.js_core.specs.declared.syntax.Declarator.{Declarator}
use Rattle.instrumenter.specs.declared.levels.Level.{Level}
use Rattle.instrumenter.specs.Around.{Around, append, as_init, assignments, before_for, before_for_in, callee, clause_object, declaration, field_or_name, is_changed, next_number, plain_names, scope_object, single, var_where_any, without_this}
use Rattle.instrumenter.specs.Counting.{count_of, expr_scopes, maybe_expr_scopes, stmt_scopes}
use Rattle.instrumenter.specs.Levels.{around_of, assigned, called_field, changes}
use Rattle.instrumenter.specs.Opening.{open_declarations, open_declarators, open_expr, open_exprs, open_fields, open_holes, open_maybe}

pub append_nothing : (ss : tree.Stmts) → append ss no_stmts ≡ ss
append_nothing no_stmts = refl
append_nothing (then_stmt s ss) = ap (then_stmt s) (append_nothing ss)

pub append_assoc : (ss ts us : tree.Stmts) → append (append ss ts) us ≡ append ss (append ts us)
append_assoc no_stmts ts us = refl
append_assoc (then_stmt s ss) ts us = ap (then_stmt s) (append_assoc ss ts us)

-- statements with one more behind them
pub pushed : (xs : List tree.Stmt) (s : tree.Stmt) → stmts_of (xs ++ s ∷ []) ≡ append (stmts_of xs) (single s)
pushed [] s = refl
pushed (x ∷ xs) s = ap (then_stmt x) (pushed xs s)

pub joined : (xs ys : List tree.Stmt) → stmts_of (xs ++ ys) ≡ append (stmts_of xs) (stmts_of ys)
joined [] ys = refl
joined (x ∷ xs) ys = ap (then_stmt x) (joined xs ys)

-- ---- cases

abbrev pub after_cases : tree.Cases → tree.Cases → tree.Cases
after_cases no_cases ds = ds
after_cases (then_case e ss cs) ds = then_case e ss (after_cases cs ds)

pub case_pushed : (xs : List Case) (d : Case) (ds : tree.Cases)
    → after_cases (cases_of (xs ++ d ∷ [])) ds ≡ after_cases (cases_of xs) (then_case (maybe_expr d.test) (stmts_of d.body.items) ds)
case_pushed [] d ds = refl
case_pushed (x ∷ xs) d ds = ap (then_case (maybe_expr x.test) (stmts_of x.body.items)) (case_pushed xs d ds)

pub cases_end : (cs : tree.Cases) → after_cases cs no_cases ≡ cs
cases_end no_cases = refl
cases_end (then_case e ss cs) = ap (then_case e ss) (cases_end cs)

-- ---- lists of parts, opened

abbrev pub expr_list : Around → ℕ → List tree.Expr → List tree.Expr
expr_list a n [] = []
expr_list a n (e ∷ es) = open_expr a n e ∷ expr_list a (n + expr_scopes e) es

pub exprs_opened : (a : Around) (n : ℕ) (es : List tree.Expr) → exprs_of (expr_list a n es) ≡ open_exprs a n (exprs_of es)
exprs_opened a n [] = refl
exprs_opened a n (e ∷ es) = ap (then_expr (open_expr a n e)) (exprs_opened a (n + expr_scopes e) es)

pub maybe_opened : (a : Around) (n : ℕ) (e : Option tree.Expr) → maybe_expr (option_map (open_expr a n) e) ≡ open_maybe a n (maybe_expr e)
maybe_opened a n None = refl
maybe_opened a n (Some e) = refl

abbrev pub hole_list : Around → ℕ → List (Option tree.Expr) → List (Option tree.Expr)
hole_list a n [] = []
hole_list a n (e ∷ es) = option_map (open_expr a n) e ∷ hole_list a (n + maybe_expr_scopes (maybe_expr e)) es

pub holes_opened : (a : Around) (n : ℕ) (es : List (Option tree.Expr)) → holes_of (hole_list a n es) ≡ open_holes a n (holes_of es)
holes_opened a n [] = refl
holes_opened a n (e ∷ es) =
    ap (λ z. then_hole z (holes_of (hole_list a (n + maybe_expr_scopes (maybe_expr e)) es))) (maybe_opened a n e)
    ∙ ap (then_hole (open_maybe a n (maybe_expr e))) (holes_opened a (n + maybe_expr_scopes (maybe_expr e)) es)

abbrev pub field_list : Around → ℕ → List (List ℕ × tree.Expr) → List (List ℕ × tree.Expr)
field_list a n [] = []
field_list a n (f ∷ fs) = (f.0, open_expr a n f.1) ∷ field_list a (n + expr_scopes f.1) fs

pub fields_opened : (a : Around) (n : ℕ) (fs : List (List ℕ × tree.Expr)) → fields_of (field_list a n fs) ≡ open_fields a n (fields_of fs)
fields_opened a n [] = refl
fields_opened a n (f ∷ fs) = ap (then_field f.0 (open_expr a n f.1)) (fields_opened a (n + expr_scopes f.1) fs)

abbrev pub declarator_list : Around → ℕ → List Declarator → List Declarator
declarator_list a n [] = []
declarator_list a n (d ∷ ds) =
    record { name = d.name; value = option_map (open_expr a n) d.value } ∷ declarator_list a (n + maybe_expr_scopes (maybe_expr d.value)) ds

pub declarators_opened : (a : Around) (n : ℕ) (ds : List Declarator)
    → declarators_of (declarator_list a n ds) ≡ open_declarators a n (declarators_of ds)
declarators_opened a n [] = refl
declarators_opened a n (d ∷ ds) =
    ap (λ z. then_declarator d.name z (declarators_of (declarator_list a (n + maybe_expr_scopes (maybe_expr d.value)) ds))) (maybe_opened a n d.value)
    ∙ ap (then_declarator d.name (open_maybe a n (maybe_expr d.value))) (declarators_opened a (n + maybe_expr_scopes (maybe_expr d.value)) ds)

abbrev pub assigned_list : Around → ℕ → List Declarator → List tree.Expr
assigned_list a n [] = []
assigned_list a n (d ∷ ds) = assigned a n d.name d.value ++ assigned_list a (n + maybe_expr_scopes (maybe_expr d.value)) ds

pub assigned_opened : (a : Around) (n : ℕ) (ds : List Declarator)
    → exprs_of (assigned_list a n ds) ≡ assignments a (open_declarators a n (declarators_of ds))
assigned_opened a n [] = refl
assigned_opened a n (d ∷ ds) = by d.value (λ m. assigned_opened a m ds) where
  by : (e : Option tree.Expr) → ((m : ℕ) → exprs_of (assigned_list a m ds) ≡ assignments a (open_declarators a m (declarators_of ds)))
      → exprs_of (assigned a n d.name e ++ assigned_list a (n + maybe_expr_scopes (maybe_expr e)) ds)
      ≡ assignments a (then_declarator d.name (open_maybe a n (maybe_expr e)) (open_declarators a (n + maybe_expr_scopes (maybe_expr e)) (declarators_of ds)))
  by None h = h (n + 0)
  by (Some e) h = ap (then_expr (assign None (field_or_name (a.fields d.name) d.name) (open_expr a n e))) (h (n + expr_scopes e))

-- the names that are no fields of the function
abbrev pub plain_list : Around → List Declarator → List Declarator
plain_list a [] = []
plain_list a (d ∷ ds) = if a.own d.name then plain_list a ds else (record { name = d.name; value = None } ∷ plain_list a ds)

pub plain_opened : (a : Around) (ds : List Declarator) → declarators_of (plain_list a ds) ≡ plain_names a (declarators_of ds)
plain_opened a [] = refl
plain_opened a (d ∷ ds) = by (a.own d.name) (plain_opened a ds) where
  by : (b : Bool) → declarators_of (plain_list a ds) ≡ plain_names a (declarators_of ds)
      → declarators_of (if b then plain_list a ds else (record { name = d.name; value = None } ∷ plain_list a ds))
      ≡ (if b then plain_names a (declarators_of ds) else then_declarator d.name no_expr (plain_names a (declarators_of ds)))
  by true h = h
  by false h = ap (then_declarator d.name no_expr) h

-- two assignments or more are joined by commas
pub joined_init : (es : List tree.Expr) → 1 < length es → as_init (exprs_of es) ≡ init_expr (comma (exprs_of es))
joined_init [] h = absurd (omega arith)
joined_init (e ∷ []) h = absurd (omega arith)
joined_init (e ∷ f ∷ es) h = refl

pub changed_more : (a : Around) (x : List ℕ) (e : Option tree.Expr) (ds : tree.Declarators)
    → is_changed a (then_declarator x (maybe_expr e) ds) ≡ (changes a x (is_some e) || is_changed a ds)
changed_more a x None ds = by (a.own x) where
  by : (b : Bool) → (b || is_changed a ds) ≡ ((b || false) || is_changed a ds)
  by true = refl
  by false = refl
changed_more a x (Some e) ds = by (a.own x) where
  by : (b : Bool) → (b || (is_some (a.fields x) || is_changed a ds)) ≡ ((b || (true && is_some (a.fields x))) || is_changed a ds)
  by true = refl
  by false = refl

pub any_names : (ns : List Declarator) → 0 < length ns → var_where_any (declarators_of ns) no_stmts ≡ single (var (declarators_of ns))
any_names [] h = absurd (omega arith)
any_names (n ∷ ns) h = refl

-- ---- the start of a function

pub declaration_behind : (a : Around) (x : Option (List ℕ)) (e : tree.Expr) (ss : tree.Stmts) → declaration a x e ss ≡ append (declaration a x e no_stmts) ss
declaration_behind a None e ss = refl
declaration_behind a (Some x) e ss = refl

-- the declarations of statements are those of the first, and then those of the others
pub declarations_behind : (a : Around) (n : ℕ) (s : tree.Stmt) (ss : tree.Stmts)
    → open_declarations a n (then_stmt s ss) ≡ append (open_declarations a n (then_stmt s no_stmts)) (open_declarations a (n + stmt_scopes s) ss)
declarations_behind a n (function (code x formals body)) ss = declaration_behind a x _ _
declarations_behind a n (expr e) ss = refl
declarations_behind a n s ss = refl

pub object_before : (n : ℕ) (valued fields : List (List ℕ)) (ss : tree.Stmts)
    → scope_object n valued fields ss ≡ append (scope_object n valued fields no_stmts) ss
object_before n valued [] ss = refl
object_before n valued (x ∷ xs) ss = refl

pub clause_before : (n : ℕ) (fields : List (List ℕ)) (ss : tree.Stmts)
    → clause_object n fields ss ≡ append (clause_object n fields no_stmts) ss
clause_before n [] ss = refl
clause_before n (x ∷ xs) ss = refl

pub number_behind : (n : ℕ) (fields : List (List ℕ)) → next_number fields n ≡ n + count_of fields
number_behind n [] = omega arith
number_behind n (x ∷ xs) = omega arith

pub any_behind : (ds : tree.Declarators) (ss : tree.Stmts) → var_where_any ds ss ≡ append (var_where_any ds no_stmts) ss
any_behind no_declarators ss = refl
any_behind (then_declarator x e ds) ss = refl

pub for_behind : (a : Around) (i : tree.ForInit) (ss : tree.Stmts) → before_for a i ss ≡ append (before_for a i no_stmts) ss
for_behind a (init_var ds) ss = by (is_changed a ds) where
  by : (b : Bool) → (if b then var_where_any (plain_names a ds) ss else ss) ≡ append (if b then var_where_any (plain_names a ds) no_stmts else no_stmts) ss
  by true = any_behind (plain_names a ds) ss
  by false = refl
for_behind a no_init ss = refl
for_behind a (init_expr e) ss = refl

pub for_in_behind : (a : Around) (declared : Bool) (t : tree.Expr) (ss : tree.Stmts)
    → before_for_in a declared t ss ≡ append (before_for_in a declared t no_stmts) ss
for_in_behind a true (name x) ss = by (is_some (a.fields x) && not (a.own x)) where
  by : (b : Bool) → (if b then then_stmt (var (then_declarator x no_expr no_declarators)) ss else ss)
      ≡ append (if b then then_stmt (var (then_declarator x no_expr no_declarators)) no_stmts else no_stmts) ss
  by true = refl
  by false = refl
for_in_behind a true t ss = refl
for_in_behind a false t ss = refl

-- a callee is opened as what the program finds of it
pub called : (ls : List Level) (f e : tree.Expr) → callee (around_of ls) f e ≡ without_this (called_field ls f) e
called ls (name x) e = refl
called ls f e = refl
