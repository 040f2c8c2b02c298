-- Functions and catch clauses that are entered have the environments of their scopes.
use Rattle.std.proofs.Common.{◌≡◌, refl, sym, ap, ◌∙◌, ℕ, ◌<◌, Bool, true, false, ◌||◌, List, [], ◌∷◌, ◌++◌, Option, Some, None, bytes_eq, is_some, length, arith}
use Rattle.std.specs.Option.{ForSome}
use Rattle.std.proofs.lemmas.List.{length-append}
use Rattle.std.proofs.lemmas.Slice.Eq.{bytes_eq-Decides}
use Rattle.std.proofs.Math.Bool.{or-false, or_assoc}
use Rattle.js_core.specs.Tree as tree
use Rattle.js_core.specs.Tree.{name, code, var, function, expr, empty, block, if_else, do_while, while, for, for_in, continue, break, return, throw, try, switch, no_stmts, then_stmt, no_body, one_body, no_declarators, then_declarator, no_init, init_var, init_expr, no_catch, one_catch, no_cases, then_case}
use Rattle.js_grammar.specs.Syntax.{AreCases, AreStmts, IsMaybeBody, IsMaybeCatch, IsStmt}
use Rattle.js_values.specs.declared.ids.EnvId.{EnvId}
use Rattle.js_values.specs.declared.value.Value.{Value}
use Rattle.js_values.specs.declared.value.Value.TheVariants.{Undefined}
use Rattle.code_table.specs.Declarations as held
use Rattle.object_heap.specs.Environment.{Bound, Environment, inside, new_environment, value_of}
use Rattle.object_heap.specs.Heap.{Contents}
use Rattle.object_heap.specs.Laws.{opens}
use Rattle.object_heap.proofs.Callers.{environment_last, inside_same}
use Rattle.page_meaning.specs.Functions.{entry_names, function_names, with_arguments, with_names}
use Rattle.scope_analysis.specs.Names as names
use Rattle.scope_analysis.specs.Names.{declared_names, is_among}
use Rattle.scope_chains.specs.Laws.{ClausesAreLevels, FunctionsAreLevels, OwnNamesAreBound, opened_in}
use Rattle.scope_chains.specs.Levels.{AreLevels, Binds, BindsOwn, Level, OwnName, innermost, round_it}
use Rattle.scope_chains.proofs.Among.{among_append, or_between}
use Rattle.scope_chains.proofs.Stay.{step_levels, step_own}

-- ---- the names that a body declares, in two parts

pub same_declarators : (ds : tree.Declarators) → names.declarator_names ds ≡ held.declarator_names ds
same_declarators no_declarators = refl
same_declarators (then_declarator x e ds) = ap (λ xs. x ∷ xs) (same_declarators ds)

pub same_init : (i : tree.ForInit) → names.init_names i ≡ held.init_names i
same_init no_init = refl
same_init (init_var ds) = same_declarators ds
same_init (init_expr e) = refl

pub same_target : (declared : Bool) (t : tree.Expr) → names.target_names declared t ≡ held.target_names declared t
same_target true (name x) = refl
same_target true t = refl
same_target false t = refl

both : (xs ys us vs : List (List ℕ)) → xs ≡ us → ys ≡ vs → xs ++ ys ≡ us ++ vs
both xs ys us vs e f = rw (e, f) refl

-- where no function may be declared, all declared names are variables
mutual
  no_functions : (s : tree.Stmt) → IsStmt false s → names.stmt_names s ≡ held.stmt_variables s
  no_functions (var ds) h = same_declarators ds
  no_functions (function c) h = cc h.0
  no_functions (expr e) h = refl
  no_functions empty h = refl
  no_functions (block ss) h = all_variables ss h
  no_functions (if_else e a b) h = both _ _ _ _ (all_variables a h.1) (body_variables b h.2)
  no_functions (do_while a e) h = all_variables a h.0
  no_functions (while e a) h = all_variables a h.1
  no_functions (for i t s a) h = both _ _ _ _ (same_init i) (all_variables a h.3)
  no_functions (for_in declared t e a) h = both _ _ _ _ (same_target declared t) (all_variables a h.3)
  no_functions continue h = refl
  no_functions break h = refl
  no_functions (return e) h = refl
  no_functions (throw e) h = refl
  no_functions (try a c l) h = both _ _ _ _ (all_variables a h.1) (both _ _ _ _ (clause_variables c h.2) (body_variables l h.3))
  no_functions (switch e cs) h = case_variables cs h.2

  all_variables : (ss : tree.Stmts) → AreStmts false ss → declared_names ss ≡ held.variables_of ss
  all_variables no_stmts h = refl
  all_variables (then_stmt s ss) h = both _ _ _ _ (no_functions s h.0) (all_variables ss h.1)

  body_variables : (b : tree.MaybeStmts) → IsMaybeBody b → names.maybe_body_names b ≡ held.body_variables b
  body_variables no_body h = refl
  body_variables (one_body ss) h = all_variables ss h

  clause_variables : (c : tree.MaybeCatch) → IsMaybeCatch c → names.catch_names c ≡ held.catch_variables c
  clause_variables no_catch h = refl
  clause_variables (one_catch x ss) h = all_variables ss h.1

  case_variables : (cs : tree.Cases) → AreCases cs → names.case_names cs ≡ held.case_variables cs
  case_variables no_cases h = refl
  case_variables (then_case e ss cs) h = both _ _ _ _ (all_variables ss h.1) (case_variables cs h.2)

plain : (x : List ℕ) (s : tree.Stmt) (ss : tree.Stmts) → names.stmt_names s ≡ held.stmt_variables s → held.functions_of (then_stmt s ss) ≡ held.functions_of ss
    → is_among x (declared_names ss) ≡ (is_among x (function_names (held.functions_of ss)) || is_among x (held.variables_of ss))
    → is_among x (declared_names (then_stmt s ss)) ≡ (is_among x (function_names (held.functions_of (then_stmt s ss))) || is_among x (held.variables_of (then_stmt s ss)))
plain x s ss e f rest =
    among_append x (names.stmt_names s) (declared_names ss)
    ∙ rw (f, among_append x (held.stmt_variables s) (held.variables_of ss), e, rest) (or_between (is_among x (held.stmt_variables s)) (is_among x (function_names (held.functions_of ss))) (is_among x (held.variables_of ss)))

-- what a body declares is the functions and the variables
declared_parts : (x : List ℕ) (ss : tree.Stmts) → AreStmts true ss → is_among x (declared_names ss) ≡ (is_among x (function_names (held.functions_of ss)) || is_among x (held.variables_of ss))
declared_parts x no_stmts h = refl
declared_parts x (then_stmt (function (code None formals body)) ss) h = cc h.0.0
declared_parts x (then_stmt (function (code (Some y) formals body)) ss) h =
    rw (declared_parts x ss h.1) (sym (or_assoc (bytes_eq x y) (is_among x (function_names (held.functions_of ss))) (is_among x (held.variables_of ss))))
declared_parts x (then_stmt (var ds) ss) h = plain x (var ds) ss (no_functions (var ds) h.0) refl (declared_parts x ss h.1)
declared_parts x (then_stmt (expr e) ss) h = plain x (expr e) ss refl refl (declared_parts x ss h.1)
declared_parts x (then_stmt empty ss) h = plain x empty ss refl refl (declared_parts x ss h.1)
declared_parts x (then_stmt (block us) ss) h = plain x (block us) ss (no_functions (block us) h.0) refl (declared_parts x ss h.1)
declared_parts x (then_stmt (if_else e a b) ss) h = plain x (if_else e a b) ss (no_functions (if_else e a b) h.0) refl (declared_parts x ss h.1)
declared_parts x (then_stmt (do_while a e) ss) h = plain x (do_while a e) ss (no_functions (do_while a e) h.0) refl (declared_parts x ss h.1)
declared_parts x (then_stmt (while e a) ss) h = plain x (while e a) ss (no_functions (while e a) h.0) refl (declared_parts x ss h.1)
declared_parts x (then_stmt (for i t s a) ss) h = plain x (for i t s a) ss (no_functions (for i t s a) h.0) refl (declared_parts x ss h.1)
declared_parts x (then_stmt (for_in declared t e a) ss) h = plain x (for_in declared t e a) ss (no_functions (for_in declared t e a) h.0) refl (declared_parts x ss h.1)
declared_parts x (then_stmt continue ss) h = plain x continue ss refl refl (declared_parts x ss h.1)
declared_parts x (then_stmt break ss) h = plain x break ss refl refl (declared_parts x ss h.1)
declared_parts x (then_stmt (return e) ss) h = plain x (return e) ss refl refl (declared_parts x ss h.1)
declared_parts x (then_stmt (throw e) ss) h = plain x (throw e) ss refl refl (declared_parts x ss h.1)
declared_parts x (then_stmt (try a c l) ss) h = plain x (try a c l) ss (no_functions (try a c l) h.0) refl (declared_parts x ss h.1)
declared_parts x (then_stmt (switch e cs) ss) h = plain x (switch e cs) ss (no_functions (switch e cs) h.0) refl (declared_parts x ss h.1)

-- ---- what an environment binds at entry

pub arguments_bound : (xs : List (List ℕ)) (vs : List Value) (x : List ℕ) → is_some (value_of (with_arguments xs vs) x) ≡ is_among x xs
arguments_bound [] vs x = refl
arguments_bound (y ∷ ys) [] x = by_case (bytes_eq x y) refl (arguments_bound ys [] x)
  where
    by_case : (b : Bool) → bytes_eq x y ≡ b → is_some (value_of (with_arguments ys []) x) ≡ is_among x ys → is_some (value_of (with_arguments (y ∷ ys) []) x) ≡ is_among x (y ∷ ys)
    by_case true e r = rw (e) refl
    by_case false e r = rw (e) r
arguments_bound (y ∷ ys) (v ∷ vs) x = by_case (bytes_eq x y) refl (arguments_bound ys vs x)
  where
    by_case : (b : Bool) → bytes_eq x y ≡ b → is_some (value_of (with_arguments ys vs) x) ≡ is_among x ys → is_some (value_of (with_arguments (y ∷ ys) (v ∷ vs)) x) ≡ is_among x (y ∷ ys)
    by_case true e r = rw (e) refl
    by_case false e r = rw (e) r

last_bound : (b : Bound) (y x : List ℕ) → is_some (value_of (b ++ (y, Undefined) ∷ []) x) ≡ (is_some (value_of b x) || bytes_eq x y)
last_bound [] y x = by_case (bytes_eq x y) refl
  where
    by_case : (t : Bool) → bytes_eq x y ≡ t → is_some (value_of ((y, Undefined) ∷ []) x) ≡ bytes_eq x y
    by_case true e = rw (e) refl
    by_case false e = rw (e) refl
last_bound (p ∷ ps) y x = by_case (bytes_eq x p.0) refl (last_bound ps y x)
  where
    by_case : (t : Bool) → bytes_eq x p.0 ≡ t → is_some (value_of (ps ++ (y, Undefined) ∷ []) x) ≡ (is_some (value_of ps x) || bytes_eq x y) → is_some (value_of ((p ∷ ps) ++ (y, Undefined) ∷ []) x) ≡ (is_some (value_of (p ∷ ps) x) || bytes_eq x y)
    by_case true e r = rw (e) refl
    by_case false e r = rw (e) r

pub names_bound : (b : Bound) (xs : List (List ℕ)) (x : List ℕ) → is_some (value_of (with_names b xs) x) ≡ (is_some (value_of b x) || is_among x xs)
names_bound b [] x = sym (or-false (is_some (value_of b x)))
names_bound b (y ∷ ys) x = by_case (is_some (value_of b y)) refl (names_bound b ys x) (names_bound (b ++ (y, Undefined) ∷ []) ys x)
  where
    kept : (t : Bool) → bytes_eq x y ≡ t → is_some (value_of b y) ≡ true → (is_some (value_of b x) || is_among x ys) ≡ (is_some (value_of b x) || (t || is_among x ys))
    kept true e h = rw ((bytes_eq-Decides x y).0 e, h) refl
    kept false e h = refl

    by_case : (t : Bool) → is_some (value_of b y) ≡ t
        → is_some (value_of (with_names b ys) x) ≡ (is_some (value_of b x) || is_among x ys)
        → is_some (value_of (with_names (b ++ (y, Undefined) ∷ []) ys) x) ≡ (is_some (value_of (b ++ (y, Undefined) ∷ []) x) || is_among x ys)
        → is_some (value_of (with_names b (y ∷ ys)) x) ≡ (is_some (value_of b x) || is_among x (y ∷ ys))
    by_case true h r s = rw (h) (r ∙ kept (bytes_eq x y) refl h)
    by_case false h r s = rw (h) (s ∙ (ap (λ t. t || is_among x ys) (last_bound b y x) ∙ or_assoc (is_some (value_of b x)) (bytes_eq x y) (is_among x ys)))

pub entry_bound : (formals : List (List ℕ)) (body : tree.Stmts) (vs : List Value) → AreStmts true body → (x : List ℕ) → is_some (value_of (entry_names formals body vs) x) ≡ is_among x (formals ++ declared_names body)
entry_bound formals body vs h x =
    let fs = function_names (held.functions_of body) in
    let us = held.variables_of body in
    names_bound (with_names (with_arguments formals vs) fs) us x
    ∙ (ap (λ t. t || is_among x us) (names_bound (with_arguments formals vs) fs x ∙ ap (λ t. t || is_among x fs) (arguments_bound formals vs x))
    ∙ (or_assoc (is_among x formals) (is_among x fs) (is_among x us)
    ∙ (ap (λ t. is_among x formals || t) (sym (declared_parts x body h)) ∙ sym (among_append x formals (declared_names body)))))

-- ---- a new environment

new_binds : (h : Contents) (outer : Option EnvId) (bound : Bound) (xs : List (List ℕ)) → ForSome outer (λ e. e.0 < length h.environments)
    → ((x : List ℕ) → is_some (value_of bound x) ≡ is_among x xs) → Binds (opened_in h outer bound) (record { 0 = length h.environments }) outer xs
new_binds h outer bound xs older same =
    let made = new_environment (inside (length h.environments) outer) bound in
    let last = environment_last h.environments made in
    record {
      there = omega (arith, length-append h.environments (made ∷ []));
      stands = ap (λ (e : Environment). e.outer) last ∙ inside_same (length h.environments) outer older;
      names = λ x. ap (λ (e : Environment). is_some (value_of e.names x)) last ∙ same x;
    }

innermost_there : (es : List Environment) (ls : List Level) → AreLevels es ls → ForSome (innermost ls) (λ e. e.0 < length es)
innermost_there es [] levels e p = cc p
innermost_there es (l ∷ ls) levels e p =
    let same : l.env ≡ e = cc p in
    rw (← same) levels.0.there

round_there : (es : List Environment) (own : Option OwnName) (ls : List Level) → BindsOwn es own (innermost ls) → AreLevels es ls → ForSome (round_it own (innermost ls)) (λ e. e.0 < length es)
round_there es None ls o levels e p = innermost_there es ls levels e p
round_there es (Some q) ls o levels e p =
    let same : q.1 ≡ e = cc p in
    rw (← same) o.there

pub functions_are_levels : FunctionsAreLevels
functions_are_levels h ls own formals body vs syntax o levels =
    let outer = round_it own (innermost ls) in
    let bound = entry_names formals body vs in (
      new_binds h outer bound (formals ++ declared_names body) (round_there h.environments own ls o levels) (entry_bound formals body vs syntax),
      step_own h (opens outer bound) own (innermost ls) o,
      step_levels h (opens outer bound) ls levels,
    )

one_bound : (y : List ℕ) (v : Value) (x : List ℕ) → is_some (value_of ((y, v) ∷ []) x) ≡ is_among x (y ∷ [])
one_bound y v x = by_case (bytes_eq x y) refl
  where
    by_case : (t : Bool) → bytes_eq x y ≡ t → is_some (value_of ((y, v) ∷ []) x) ≡ is_among x (y ∷ [])
    by_case true e = rw (e) refl
    by_case false e = rw (e) refl

pub own_names_are_bound : OwnNamesAreBound
own_names_are_bound h ls x v levels = (
  new_binds h (innermost ls) ((x, v) ∷ []) (x ∷ []) (innermost_there h.environments ls levels) (one_bound x v),
  step_levels h (opens (innermost ls) ((x, v) ∷ [])) ls levels,
)

pub clauses_are_levels : ClausesAreLevels
clauses_are_levels h ls x v levels = (
  new_binds h (innermost ls) ((x, v) ∷ []) (x ∷ []) (innermost_there h.environments ls levels) (one_bound x v),
  tt,
  step_levels h (opens (innermost ls) ((x, v) ∷ [])) ls levels,
)
