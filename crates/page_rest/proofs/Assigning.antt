-- In a script in form no function assigns to a reserved name that it leaves to the scopes round it: what of that holds of a piece holds of its parts.
use Rattle.std.proofs.Common.{◌≡◌, refl, sym, ap, ◌∙◌, ℕ, Bool, true, false, not, ◌&&◌, ◌||◌, List, [], ◌∷◌, ◌++◌, Option, Some, None, bytes_eq, if◌then◌else◌}
use Rattle.std.specs.List.{list_any}
use Rattle.std.proofs.lemmas.Bool.{and_parts, and_right, not-false, not-true, or_from, or_parts}
use Rattle.std.proofs.lemmas.List.Folds.{list_any-append}
use Rattle.std.proofs.lemmas.Slice.Eq.{bytes_eq-Decides}
use Rattle.std.proofs.Math.Bool.{or-false}
use Rattle.js_core.specs.Tree as tree
use Rattle.js_core.specs.Tree.{assign, code, expr, func, name, no_declarators, no_expr, one_expr, then_declarator, then_stmt, var}
use Rattle.script_rules.specs.Form.{any_use_is_reserved, are_variables_in_form, boxes, can_be_rebuilt, is_clause_out_of_form, is_constant, is_expression_out_of_form, is_not_captured, is_once, is_opened, is_parameter_in_form, may_be_captured, opens_with}
use Rattle.scope_analysis.specs.Uses.{Use, assignment, crossing, declarator_uses, expr_uses, is_assigned, is_assigned_once, is_captured, leaving_clause, leaving_function, maybe_expr_uses, stmts_uses, target_uses}
use Rattle.scope_analysis.specs.Identifiers.{is_reserved}
use Rattle.scope_analysis.specs.Names.{code_body, declared_names, is_among, maybe_name, unless_among}
use Rattle.agreement.proofs.Callers.{all_names, or_else, same_name}

-- a function inside assigns to a reserved name
abbrev assigns_outwards : Use → Bool
assigns_outwards u = u.crosses && (u.assigns && is_reserved u.name)

abbrev pub assigns_round : List Use → Bool
assigns_round us = list_any assigns_outwards us

-- a function inside assigns to this name
abbrev assigns_from_inside : List ℕ → List Use → Bool
assigns_from_inside x us = list_any (λ u. u.crosses && (u.assigns && bytes_eq u.name x)) us

-- ---- parts of pieces

pub left_calm : (us vs : List Use) → assigns_round (us ++ vs) ≡ false → assigns_round us ≡ false
left_calm us vs h = (or_parts (assigns_round us) (assigns_round vs) (sym (list_any-append assigns_outwards us vs) ∙ h)).0

pub right_calm : (us vs : List Use) → assigns_round (us ++ vs) ≡ false → assigns_round vs ≡ false
right_calm us vs h = (or_parts (assigns_round us) (assigns_round vs) (sym (list_any-append assigns_outwards us vs) ∙ h)).1

pub target_calm : (e : tree.Expr) → assigns_round (target_uses e (expr_uses e)) ≡ false → assigns_round (expr_uses e) ≡ false
target_calm (name x) h = refl
target_calm e h = h

pub value_calm : (x : List ℕ) (e : tree.MaybeExpr) → assigns_round (declarator_uses x e) ≡ false → assigns_round (maybe_expr_uses e) ≡ false
value_calm x no_expr h = refl
value_calm x (one_expr e) h = h

-- where no reserved name is used
pub closed_calm : (us : List Use) → any_use_is_reserved us ≡ false → assigns_round us ≡ false
closed_calm [] h = refl
closed_calm (u ∷ us) h =
    let parts = or_parts (is_reserved u.name) (any_use_is_reserved us) h in
    let inward = and_right u.crosses _ (and_right u.assigns (is_reserved u.name) parts.0) in
    or_from (assigns_outwards u) (assigns_round us) inward (closed_calm us parts.1)

-- ---- a name that no function inside assigns to

uncaptured : (x : List ℕ) (us : List Use) → is_captured x us ≡ false → assigns_from_inside x us ≡ false
uncaptured x [] h = refl
uncaptured x (u ∷ us) h =
    let parts = or_parts (u.crosses && bytes_eq u.name x) (is_captured x us) h in
    or_from (u.crosses && (u.assigns && bytes_eq u.name x)) (assigns_from_inside x us) (by u.crosses u.assigns (bytes_eq u.name x) parts.0) (uncaptured x us parts.1)
  where
    by : (a b c : Bool) → (a && c) ≡ false → (a && (b && c)) ≡ false
    by true true c h = h
    by true false c h = refl
    by false b c h = refl

unassigned : (x : List ℕ) (us : List Use) → is_assigned x us ≡ false → assigns_from_inside x us ≡ false
unassigned x [] h = refl
unassigned x (u ∷ us) h =
    let parts = or_parts (u.assigns && bytes_eq u.name x) (is_assigned x us) h in
    or_from (u.crosses && (u.assigns && bytes_eq u.name x)) (assigns_from_inside x us) (and_right u.crosses (u.assigns && bytes_eq u.name x) parts.0) (unassigned x us parts.1)

-- the one assignment comes first, in the piece itself
only_first : (x y : List ℕ) (us : List Use) → bytes_eq y x ≡ true → is_assigned_once x (assignment y ∷ us) ≡ true
    → assigns_from_inside x (assignment y ∷ us) ≡ false
only_first x y us same once = unassigned x us (not-true (is_assigned x us) (by (bytes_eq y x) same once))
  where
    by : (b : Bool) → b ≡ true → (if b then not (is_assigned x us) else is_assigned_once x us) ≡ true → not (is_assigned x us) ≡ true
    by true e h = h
    by false e h = cc e

-- where the first statement declares it, with a value
opened_once : (x : List ℕ) (body : tree.Stmts) → opens_with x body ≡ true → is_assigned_once x (stmts_uses body) ≡ true
    → assigns_from_inside x (stmts_uses body) ≡ false
opened_once x (then_stmt (var (then_declarator y (one_expr e) no_declarators)) ss) h once =
    only_first x y ((expr_uses e ++ []) ++ stmts_uses ss) (and_parts (bytes_eq y x) _ h).0 once
opened_once x (then_stmt (var (then_declarator y no_expr no_declarators)) ss) h once = cc (and_parts (bytes_eq y x) false h).1
opened_once x body h once = cc h

-- where the first statement of a catch clause assigns to it
boxed_once : (x : List ℕ) (ss : tree.Stmts) → boxes x ss ≡ true → is_assigned_once x (stmts_uses ss) ≡ true
    → assigns_from_inside x (stmts_uses ss) ≡ false
boxed_once x (then_stmt (expr (assign None (name y) e)) ss) h once =
    only_first x y (expr_uses e ++ stmts_uses ss) (and_parts (bytes_eq y x) _ h).0 once
boxed_once x ss h once = cc h

-- ---- the variables of a function in form

variable_calm : (formals declared : List (List ℕ)) (body : tree.Stmts) (x : List ℕ)
    → may_be_captured formals declared body (stmts_uses body) x ≡ true → assigns_from_inside x (stmts_uses body) ≡ false
variable_calm formals declared body x h = by (is_captured x us) refl
  where
    us : List Use
    us = stmts_uses body

    rebuilt : (b : Bool) → (if b then is_constant declared us x else is_opened declared body us x) ≡ true → assigns_from_inside x us ≡ false
    rebuilt true k = unassigned x us (not-true (is_assigned x us) (and_parts (not (is_assigned x us)) (not (is_among x declared)) k).0)
    rebuilt false k =
        let parts = and_parts (opens_with x body) (is_once x declared && is_assigned_once x us) k in
        opened_once x body parts.0 (and_parts (is_once x declared) (is_assigned_once x us) parts.1).1

    by : (b : Bool) → is_captured x us ≡ b → assigns_from_inside x us ≡ false
    by false e = uncaptured x us e
    by true e =
        let whole : can_be_rebuilt formals declared body us x ≡ true = or_else (is_captured x us) (can_be_rebuilt formals declared body us x) h e in
        rebuilt (is_among x formals) (and_parts (is_reserved x) _ whole).1

own_calm : (x : Option (List ℕ)) (xs : List (List ℕ)) (y : List ℕ) (us : List Use) → is_not_captured (unless_among x xs) us ≡ true
    → is_among y (maybe_name x) ≡ true → is_among y xs ≡ false → assigns_from_inside y us ≡ false
own_calm None xs y us h own other = cc own
own_calm (Some x) xs y us h own other =
    let same : y ≡ x = (bytes_eq-Decides y x).0 (sym (or-false (bytes_eq y x)) ∙ own) in
    uncaptured y us (by (is_among x xs) (sym (ap (λ z. is_among z xs) same) ∙ other) same h)
  where
    by : (b : Bool) → b ≡ false → y ≡ x → is_not_captured (if b then None else Some x) us ≡ true → is_captured y us ≡ false
    by true e same k = cc e
    by false e same k = ap (λ z. is_captured z us) same ∙ not-true (is_captured x us) k

-- ---- functions and catch clauses inside

-- a use that a name bound here has is no such one
bound_use : (u : Use) → (u.crosses && (u.assigns && bytes_eq u.name u.name)) ≡ false → assigns_outwards u ≡ false
bound_use u h = by u.crosses u.assigns (bytes_eq u.name u.name) (is_reserved u.name) (same_name u.name) h
  where
    by : (a b c d : Bool) → c ≡ true → (a && (b && c)) ≡ false → (a && (b && d)) ≡ false
    by true true true d e h = cc h
    by true true false d e h = cc e
    by true false c d e h = refl
    by false b c d e h = refl

left_use : (u : Use) → (u.assigns && is_reserved u.name) ≡ false → assigns_outwards u ≡ false
left_use u h = and_right u.crosses (u.assigns && is_reserved u.name) h

-- what a function binds and leaves has none, so its body has none
body_calm : (xs : List (List ℕ)) (us : List Use) → ((x : List ℕ) → is_among x xs ≡ true → assigns_from_inside x us ≡ false)
    → assigns_round (leaving_function xs us) ≡ false → assigns_round us ≡ false
body_calm xs [] bound h = refl
body_calm xs (u ∷ us) bound h = by (is_among u.name xs) refl h (body_calm xs us later)
  where
    later : (x : List ℕ) → is_among x xs ≡ true → assigns_from_inside x us ≡ false
    later x e = (or_parts (u.crosses && (u.assigns && bytes_eq u.name x)) (assigns_from_inside x us) (bound x e)).1

    by : (b : Bool) → is_among u.name xs ≡ b
        → assigns_round (if b then leaving_function xs us else (crossing u ∷ leaving_function xs us)) ≡ false
        → (assigns_round (leaving_function xs us) ≡ false → assigns_round us ≡ false) → assigns_round (u ∷ us) ≡ false
    by true e k more =
        let own = (or_parts (u.crosses && (u.assigns && bytes_eq u.name u.name)) (assigns_from_inside u.name us) (bound u.name e)).0 in
        or_from (assigns_outwards u) (assigns_round us) (bound_use u own) (more k)
    by false e k more =
        let parts = or_parts (u.assigns && is_reserved u.name) (assigns_round (leaving_function xs us)) k in
        or_from (assigns_outwards u) (assigns_round us) (left_use u parts.0) (more parts.1)

block_calm : (x : List ℕ) (us : List Use) → assigns_from_inside x us ≡ false → assigns_round (leaving_clause x us) ≡ false → assigns_round us ≡ false
block_calm x [] bound h = refl
block_calm x (u ∷ us) bound h = by (bytes_eq u.name x) refl h (block_calm x us parts.1)
  where
    parts : ((u.crosses && (u.assigns && bytes_eq u.name x)) ≡ false) × (assigns_from_inside x us ≡ false)
    parts = or_parts (u.crosses && (u.assigns && bytes_eq u.name x)) (assigns_from_inside x us) bound

    by : (b : Bool) → bytes_eq u.name x ≡ b → assigns_round (if b then leaving_clause x us else (u ∷ leaving_clause x us)) ≡ false
        → (assigns_round (leaving_clause x us) ≡ false → assigns_round us ≡ false) → assigns_round (u ∷ us) ≡ false
    by true e k more =
        let own : (u.crosses && (u.assigns && bytes_eq u.name u.name)) ≡ false =
        ap (λ z. u.crosses && (u.assigns && bytes_eq u.name z)) ((bytes_eq-Decides u.name x).0 e) ∙ parts.0
        in
        or_from (assigns_outwards u) (assigns_round us) (bound_use u own) (more k)
    by false e k more =
        let both = or_parts (assigns_outwards u) (assigns_round (leaving_clause x us)) k in
        or_from (assigns_outwards u) (assigns_round us) both.0 (more both.1)

pub function_calm : (c : tree.Code) → is_expression_out_of_form c ≡ false → assigns_round (expr_uses (func c)) ≡ false
    → assigns_round (stmts_uses (code_body c)) ≡ false
function_calm (code x formals body) formed h = body_calm (maybe_name x ++ xs) us bound h
  where
    xs : List (List ℕ)
    xs = formals ++ declared_names body

    us : List Use
    us = stmts_uses body

    parts : (are_variables_in_form (code x formals body) us ≡ true) × (is_not_captured (unless_among x xs) us ≡ true)
    parts = and_parts (are_variables_in_form (code x formals body) us) (is_not_captured (unless_among x xs) us) (not-false _ formed)

    either : (a b : Bool) → (a || b) ≡ true → b ≡ false → a ≡ true
    either true b e f = refl
    either false b e f = cc (e, f)

    by : (y : List ℕ) (b : Bool) → is_among y xs ≡ b → is_among y (maybe_name x ++ xs) ≡ true → assigns_from_inside y us ≡ false
    by y true e k = variable_calm formals (declared_names body) body y (all_names (may_be_captured formals (declared_names body) body us) xs y parts.0 e)
    by y false e k =
        let own : is_among y (maybe_name x) ≡ true = either (is_among y (maybe_name x)) (is_among y xs) (sym (list_any-append (bytes_eq y) (maybe_name x) xs) ∙ k) e in
        own_calm x xs y us parts.1 own e

    bound : (y : List ℕ) → is_among y (maybe_name x ++ xs) ≡ true → assigns_from_inside y us ≡ false
    bound y k = by y (is_among y xs) refl k

pub clause_calm : (x : List ℕ) (ss : tree.Stmts) → is_clause_out_of_form x ss ≡ false → assigns_round (leaving_clause x (stmts_uses ss)) ≡ false
    → assigns_round (stmts_uses ss) ≡ false
clause_calm x ss formed h = block_calm x us (by (is_captured x us) refl) h
  where
    us : List Use
    us = stmts_uses ss

    by : (b : Bool) → is_captured x us ≡ b → assigns_from_inside x us ≡ false
    by false e = uncaptured x us e
    by true e =
        let whole = or_else (is_captured x us) (is_reserved x && (boxes x ss && is_assigned_once x us)) (not-false (is_parameter_in_form x ss us) formed) e in
        let parts = and_parts (boxes x ss) (is_assigned_once x us) (and_parts (is_reserved x) (boxes x ss && is_assigned_once x us) whole).1 in
        boxed_once x ss parts.0 parts.1

-- ---- what a function leaves

-- all that a function leaves crosses it, so it assigns to no reserved name
pub never_assigned : (xs : List (List ℕ)) (us : List Use) (x : List ℕ) → is_reserved x ≡ true → assigns_round (leaving_function xs us) ≡ false
    → is_assigned x (leaving_function xs us) ≡ false
never_assigned xs [] x reserved h = refl
never_assigned xs (u ∷ us) x reserved h = by (is_among u.name xs) h (never_assigned xs us x reserved)
  where
    other : (a b c : Bool) → (b ≡ true → c ≡ true) → (a && c) ≡ false → (a && b) ≡ false
    other true true c f e = cc (f refl, e)
    other true false c f e = refl
    other false b c f e = refl

    by : (b : Bool) → assigns_round (if b then leaving_function xs us else (crossing u ∷ leaving_function xs us)) ≡ false
        → (assigns_round (leaving_function xs us) ≡ false → is_assigned x (leaving_function xs us) ≡ false)
        → is_assigned x (if b then leaving_function xs us else (crossing u ∷ leaving_function xs us)) ≡ false
    by true k more = more k
    by false k more =
        let parts = or_parts (u.assigns && is_reserved u.name) (assigns_round (leaving_function xs us)) k in
        or_from (u.assigns && bytes_eq u.name x) (is_assigned x (leaving_function xs us))
        (other u.assigns (bytes_eq u.name x) (is_reserved u.name) (λ e. ap is_reserved ((bytes_eq-Decides u.name x).0 e) ∙ reserved) parts.0) (more parts.1)
