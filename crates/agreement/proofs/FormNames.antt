-- What the rule of form says of the captured names of a function or a catch clause: each is a constant, which only the first statement may set.
use Rattle.std.proofs.Common.{◌≡◌, refl, ap, ◌∙◌, ℕ, Bool, true, false, not, ◌&&◌, ◌||◌, List, [], ◌∷◌, ◌++◌, ◌⊎◌, inl, inr, None, bytes_eq, if◌then◌else◌}
use Rattle.std.specs.List.{list_all, list_any}
use Rattle.std.proofs.lemmas.Bool.{and_from, and_parts, both_ways, cond-false, cond-true, false_from_ne_true, not-true, or_left, or_parts, or_right}
use Rattle.std.proofs.lemmas.Slice.Eq.{bytes_eq-Decides}
use Rattle.std.proofs.Math.Bool.{and-false}
use Rattle.js_core.specs.Tree as tree
use Rattle.js_core.specs.Tree.{assign, expr, function, literal, name, no_declarators, no_fields, no_stmts, one_expr, then_declarator, then_field, then_stmt, var}
use Rattle.code_table.specs.Declarations.{functions_of}
use Rattle.script_rules.specs.Form.{are_plain_fields, can_be_rebuilt, is_constant, is_field_of, is_opened, is_once, may_be_captured, opens_with}
use Rattle.scope_analysis.specs.Uses.{Use, assignment, fields_uses, is_assigned, is_assigned_once, is_captured, stmts_uses}
use Rattle.early_rules.specs.FormNodes.{is_declaration}
use Rattle.scope_analysis.specs.Identifiers.{is_reserved}
use Rattle.scope_analysis.specs.Names.{declared_names, is_among}
use Rattle.scope_analysis.specs.Nodes.{stmt_any, stmts_any}
use Rattle.instrumenter.proofs.Callers.{Among, Each, Missing, all_pass, among_right, each_among, same_name}
use Rattle.agreement.specs.Opened.{are_sure, begins_with_set, declares_none, is_bound, is_sure}

pub or_else : (a b : Bool) → (not a || b) ≡ true → a ≡ true → b ≡ true
or_else true b h e = h
or_else false b h e = cc e

-- what holds of all names holds of each
pub all_names : (p : List ℕ → Bool) (xs : List (List ℕ)) (x : List ℕ) → list_all p xs ≡ true → Among x xs → p x ≡ true
all_names p [] x all h = cc h
all_names p (y ∷ ys) x all h = by (bytes_eq x y) refl (all_names p ys x (and_parts (p y) (list_all p ys) all).1) h
  where
    by : (b : Bool) → bytes_eq x y ≡ b → (is_among x ys ≡ true → p x ≡ true) → (b || is_among x ys) ≡ true → p x ≡ true
    by true same later k = ap p ((bytes_eq-Decides x y).0 same) ∙ (and_parts (p y) (list_all p ys) all).0
    by false other later k = later k

-- ---- uses

module _ (test : Use → Bool) where
  abbrev has : List ℕ → List Use → Bool
  has x us = list_any (λ u. test u && bytes_eq u.name x) us

  told_by : (vs us : List Use) → ((y : List ℕ) → has y us ≡ true → has y vs ≡ true) → Each (λ u. test u ≡ true → has u.name vs ≡ true) us
  told_by vs [] so = tt
  told_by vs (u ∷ us) so = (
    (λ e. so u.name (or_left (test u && bytes_eq u.name u.name) (has u.name us) (and_from (test u) (bytes_eq u.name u.name) e (same_name u.name)))),
    told_by vs us (λ y h. so y (or_right (test u && bytes_eq u.name y) (has y us) h)),
  )

  none_has : (x : List ℕ) (us : List Use) → has x us ≡ false → Each (λ u. test u ≡ true → Missing u.name (x ∷ [])) us
  none_has x [] h = tt
  none_has x (u ∷ us) h =
      let parts = or_parts (test u && bytes_eq u.name x) (has x us) h in
      (by (test u) (bytes_eq u.name x) parts.0, none_has x us parts.1)
    where
      by : (a b : Bool) → (a && b) ≡ false → a ≡ true → (b || false) ≡ false
      by true true h e = cc h
      by true false h e = refl
      by false b h e = cc e

-- a use that crosses captures its name, and one that assigns assigns it
pub captured_each : (us : List Use) → Each (λ u. u.crosses ≡ true → is_captured u.name us ≡ true) us
captured_each us = told_by (λ u. u.crosses) us us (λ y h. h)

pub assigned_each : (us : List Use) → Each (λ u. u.assigns ≡ true → is_assigned u.name us ≡ true) us
assigned_each us = told_by (λ u. u.assigns) us us (λ y h. h)

pub uncaptured_each : (x : List ℕ) (us : List Use) → is_captured x us ≡ false → Each (λ u. u.crosses ≡ true → Missing u.name (x ∷ [])) us
uncaptured_each x us h = none_has (λ u. u.crosses) x us h

pub unassigned_each : (x : List ℕ) (us : List Use) → is_assigned x us ≡ false → Each (λ u. u.assigns ≡ true → Missing u.name (x ∷ [])) us
unassigned_each x us h = none_has (λ u. u.assigns) x us h

-- ---- captured names of a function

-- its variables are in form
abbrev pub Formed : List (List ℕ) → tree.Stmts → Type 0
Formed formals body = list_all (may_be_captured formals (declared_names body) body (stmts_uses body)) (formals ++ declared_names body) ≡ true

-- the names that are constant
abbrev pub seals : tree.Stmts → List ℕ → Bool
seals body x = is_reserved x && is_captured x (stmts_uses body)

-- a formal that is never set, or set by the first statement
abbrev Cause : List (List ℕ) → tree.Stmts → List ℕ → Type 0
Cause formals body x =
    ((is_among x formals ≡ true) × (is_constant (declared_names body) (stmts_uses body) x ≡ true))
    ⊎ ((is_among x formals ≡ false) × (is_opened (declared_names body) body (stmts_uses body) x ≡ true))

pub captured_is : (formals : List (List ℕ)) (body : tree.Stmts) (x : List ℕ) → Formed formals body → Among x (formals ++ declared_names body)
    → is_captured x (stmts_uses body) ≡ true → (is_reserved x ≡ true) × Cause formals body x
captured_is formals body x form there captured = (parts.0, by (is_among x formals) refl parts.1)
  where
    chosen : Bool → Bool
    chosen b = if b then is_constant (declared_names body) (stmts_uses body) x else is_opened (declared_names body) body (stmts_uses body) x

    whole : can_be_rebuilt formals (declared_names body) body (stmts_uses body) x ≡ true
    whole =
        or_else (is_captured x (stmts_uses body)) (can_be_rebuilt formals (declared_names body) body (stmts_uses body) x)
        (all_names (may_be_captured formals (declared_names body) body (stmts_uses body)) (formals ++ declared_names body) x form there) captured

    parts : (is_reserved x ≡ true) × (chosen (is_among x formals) ≡ true)
    parts = and_parts (is_reserved x) (chosen (is_among x formals)) whole

    by : (b : Bool) → is_among x formals ≡ b → chosen b ≡ true → Cause formals body x
    by true e k = inl (e, k)
    by false e k = inr (e, k)

-- where the first statement declares a constant with an object literal, it sets one
opens_begins : (body : tree.Stmts) (x : List ℕ) (p : List ℕ → Bool) → opens_with x body ≡ true → p x ≡ true → declares_none (functions_of body) ≡ true → begins_with_set p body ≡ true
opens_begins (then_stmt (var (then_declarator y (one_expr (literal es)) no_declarators)) ss) x p h e d =
    and_from (p y) (declares_none (functions_of ss)) (ap p ((bytes_eq-Decides y x).0 (and_parts (bytes_eq y x) (are_plain_fields es) h).0) ∙ e) d
opens_begins (then_stmt (var (then_declarator y e no_declarators)) ss) x p h k d = absurd (both_ways (bytes_eq y x && false) (and-false (bytes_eq y x)) h)
opens_begins body x p h e d = cc h

module _ (x : List ℕ) (us : List Use) where
  -- the one assignment comes first
  pub only_first : (y : List ℕ) → bytes_eq y x ≡ true → is_assigned_once x (assignment y ∷ us) ≡ true → is_assigned x us ≡ false
  only_first y same once = not-true (is_assigned x us) (by (bytes_eq y x) same once)
    where
      by : (b : Bool) → b ≡ true → (if b then not (is_assigned x us) else is_assigned_once x us) ≡ true → not (is_assigned x us) ≡ true
      by true e h = h
      by false e h = cc e

pub no_functions : (body : tree.Stmts) → stmts_any is_declaration body ≡ false → declares_none (functions_of body) ≡ true
no_functions no_stmts h = refl
no_functions (then_stmt (function c) ss) h = cc h
no_functions (then_stmt s ss) h = no_functions ss (or_parts (stmt_any is_declaration s) (stmts_any is_declaration ss) h).1

-- each constant is a formal that nothing declares again, or is set by the first statement
pub names_are_sure : (formals : List (List ℕ)) (body : tree.Stmts) → Formed formals body → stmts_any is_declaration body ≡ false → are_sure (seals body) formals body ≡ true
names_are_sure formals body form plain =
    all_pass (is_sure (seals body) formals body) (formals ++ declared_names body)
    (each_among (λ y. is_sure (seals body) formals body y ≡ true) (formals ++ declared_names body) (λ y there. by y there (seals body y) refl))
  where
    asked : List ℕ → Bool
    asked y = if is_among y formals then not (is_among y (declared_names body)) else begins_with_set (bytes_eq y) body

    either : (y : List ℕ) → Cause formals body y → asked y ≡ true
    either y (inl k) = cond-true (is_among y formals) _ _ k.0 ∙ (and_parts (not (is_assigned y (stmts_uses body))) (not (is_among y (declared_names body))) k.1).1
    either y (inr k) =
        let parts = and_parts (opens_with y body) (is_once y (declared_names body) && is_assigned_once y (stmts_uses body)) k.1 in
        cond-false (is_among y formals) _ _ k.0 ∙ opens_begins body y (bytes_eq y) parts.0 (same_name y) (no_functions body plain)

    by : (y : List ℕ) → Among y (formals ++ declared_names body) → (b : Bool) → seals body y ≡ b → (not b || asked y) ≡ true
    by y there true e = either y (captured_is formals body y form there (and_parts (is_reserved y) (is_captured y (stmts_uses body)) e).1).1
    by y there false e = refl

-- a name that the function binds and that is constant
abbrev pub holds : List (List ℕ) → tree.Stmts → List ℕ → Bool
holds formals body x = is_bound formals body x && seals body x

-- where the first statement sets none, no constant of the function is set
pub none_is_set : (formals : List (List ℕ)) (body : tree.Stmts) → Formed formals body → stmts_any is_declaration body ≡ false → begins_with_set (holds formals body) body ≡ false
    → (y : List ℕ) → is_bound formals body y ≡ true → Among y (formals ++ declared_names body) → is_assigned y (stmts_uses body) ≡ true → seals body y ≡ false
none_is_set formals body form plain none y bound there assigned =
    false_from_ne_true (seals body y) (λ e. by e (captured_is formals body y form there (and_parts (is_reserved y) (is_captured y (stmts_uses body)) e).1).1)
  where
    by : seals body y ≡ true → Cause formals body y → ⊥
    by e (inl k) =
        both_ways (is_assigned y (stmts_uses body))
        (not-true (is_assigned y (stmts_uses body)) (and_parts (not (is_assigned y (stmts_uses body))) (not (is_among y (declared_names body))) k.1).0) assigned
    by e (inr k) =
        let parts = and_parts (opens_with y body) (is_once y (declared_names body) && is_assigned_once y (stmts_uses body)) k.1 in
        both_ways (begins_with_set (holds formals body) body) none
        (opens_begins body y (holds formals body) parts.0 (and_from (is_bound formals body y) (seals body y) bound e) (no_functions body plain))

-- ---- a body that begins with `var x={..};`

module _ (formals : List (List ℕ)) (x : List ℕ) (es : tree.Fields) (ss : tree.Stmts) where
  abbrev opening : tree.Stmts
  opening = then_stmt (var (then_declarator x (one_expr (literal es)) no_declarators)) ss

  abbrev later : List Use
  later = (fields_uses es ++ []) ++ stmts_uses ss

  -- its fields are plain
  pub opening_is_plain : Formed formals opening → is_captured x (stmts_uses opening) ≡ true → are_plain_fields es ≡ true
  opening_is_plain form captured =
      by (captured_is formals opening x form (among_right x formals (declared_names opening) (or_left (bytes_eq x x) (is_among x (declared_names ss)) (same_name x))) captured).1
    where
      by : Cause formals opening x → are_plain_fields es ≡ true
      by (inl k) =
          absurd (both_ways (is_assigned x (stmts_uses opening))
          (not-true (is_assigned x (stmts_uses opening)) (and_parts (not (is_assigned x (stmts_uses opening))) (not (is_among x (declared_names opening))) k.1).0)
          (or_left (bytes_eq x x) (is_assigned x later) (same_name x)))
      by (inr k) =
          let parts = and_parts (opens_with x opening) (is_once x (declared_names opening) && is_assigned_once x (stmts_uses opening)) k.1 in
          (and_parts (bytes_eq x x) (are_plain_fields es) parts.0).1

  -- and nothing behind that sets a constant
  pub none_is_set_later : Formed formals opening → (y : List ℕ) → Among y (formals ++ declared_names opening) → is_assigned y later ≡ true
      → seals opening y ≡ false
  none_is_set_later form y there assigned =
      false_from_ne_true (seals opening y) (λ e. by (captured_is formals opening y form there (and_parts (is_reserved y) (is_captured y (stmts_uses opening)) e).1).1)
    where
      by : Cause formals opening y → ⊥
      by (inl k) =
          both_ways (is_assigned y (stmts_uses opening))
          (not-true (is_assigned y (stmts_uses opening)) (and_parts (not (is_assigned y (stmts_uses opening))) (not (is_among y (declared_names opening))) k.1).0)
          (or_right (bytes_eq x y) (is_assigned y later) assigned)
      by (inr k) =
          let parts = and_parts (opens_with y opening) (is_once y (declared_names opening) && is_assigned_once y (stmts_uses opening)) k.1 in
          let once = (and_parts (is_once y (declared_names opening)) (is_assigned_once y (stmts_uses opening)) parts.1).1 in
          both_ways (is_assigned y later) (only_first y later x (and_parts (bytes_eq x y) (are_plain_fields es) parts.0).0 once) assigned

-- ---- a body that begins with `x={..};`

module _ (formals : List (List ℕ)) (x : List ℕ) (es : tree.Fields) (ss : tree.Stmts) where
  abbrev setting : tree.Stmts
  setting = then_stmt (expr (assign None (name x) (literal es))) ss

  -- no function binds the name, if one inside uses it
  pub setting_is_unbound : Formed formals setting → is_captured x (stmts_uses setting) ≡ true → Missing x (formals ++ declared_names setting)
  setting_is_unbound form captured =
      false_from_ne_true (is_among x (formals ++ declared_names setting)) (λ there. by (captured_is formals setting x form there captured).1)
    where
      by : Cause formals setting x → ⊥
      by (inl k) =
          both_ways (is_assigned x (stmts_uses setting))
          (not-true (is_assigned x (stmts_uses setting)) (and_parts (not (is_assigned x (stmts_uses setting))) (not (is_among x (declared_names setting))) k.1).0)
          (or_left (bytes_eq x x) (is_assigned x (fields_uses es ++ stmts_uses ss)) (same_name x))
      by (inr k) = cc k.1

-- ---- catch clauses

-- the one field is plain
pub box_is_plain : (x : List ℕ) (es : tree.Fields) → is_field_of x es ≡ true → are_plain_fields es ≡ true
box_is_plain x no_fields h = refl
box_is_plain x (then_field f (name y) no_fields) h = refl
box_is_plain x (then_field f e no_fields) h = cc h
box_is_plain x (then_field f e (then_field g d es)) h = cc h
