-- A function of which no node passes one of the tests is in form and breaks no early rule, in a call that binds its needed variables.
use Rattle.std.proofs.Common.{◌≡◌, refl, ap, ◌∙◌, ℕ, Bool, true, false, not, ◌&&◌, List, [], ◌∷◌, ◌++◌, None, bytes_eq, if◌then◌else◌}
use Rattle.std.specs.List.{list_all}
use Rattle.std.proofs.lemmas.Bool.{and_from, and_parts, not_from_false, or_from, or_left, or_right}
use Rattle.std.proofs.lemmas.List.{append-nil}
use Rattle.js_core.specs.Tree as tree
use Rattle.js_core.specs.Tree.{call, code, expr, func, no_exprs, no_stmts, one_expr, return, then_stmt}
use Rattle.early_rules.specs.EarlyRules.{early_rule, has_stray_jump}
use Rattle.script_rules.specs.Form.{any_is_reserved, any_use_is_reserved, are_variables_in_form, can_be_rebuilt, in_form, is_constant, is_opened, may_be_captured}
use Rattle.early_rules.specs.FormNodes.{is_declaration}
use Rattle.scope_analysis.specs.Needs.{needed_variables}
use Rattle.scope_analysis.specs.Identifiers.{is_reserved}
use Rattle.early_rules.specs.Jumps.{strays}
use Rattle.scope_analysis.specs.Names.{bound_names, declared_names, is_among, maybe_name}
use Rattle.scope_analysis.specs.Nodes.{Node, expr_any, expression, statement, stmts_any}
use Rattle.scope_analysis.specs.Uses.{Use, expr_uses, is_assigned, is_captured, stmts_uses}
use Rattle.agreement.proofs.Callers.{same_name}
use Rattle.page_rest.proofs.Assigning.{assigns_round, never_assigned}
use Rattle.page_rest.proofs.FormParts.{FormParts, from_parts}
use Rattle.early_rules.proofs.Callers.{KeepsRules, none_is_broken}
use Rattle.page_rest.proofs.NeededNames.{needed_are_all, needed_are_apart, needed_are_reserved, needed_are_unrestricted}
use Rattle.page_rest.proofs.Tests.{Deleted, Fields, Formals, Jumps, Kept, Own, Restricted, Scopes, Targets, Test, test_of}
use Rattle.page_rest.specs.Asks.{is_formed, is_no}

-- the function that binds the needed variables and returns the function
abbrev binder : tree.Code → tree.Code
binder c = code None (needed_variables c) (then_stmt (return (one_expr (func c))) no_stmts)

-- its call, as a script
abbrev outer : tree.Code → tree.Stmts
outer c = then_stmt (expr (call (func (binder c)) no_exprs)) no_stmts

-- ---- the variables that it binds

-- a function assigns to no reserved name that it leaves
assigns_none : (c : tree.Code) (x : List ℕ) → is_reserved x ≡ true → assigns_round (expr_uses (func c)) ≡ false → is_assigned x (expr_uses (func c)) ≡ false
assigns_none (code y formals body) x reserved h = never_assigned (maybe_name y ++ bound_names (code y formals body)) (stmts_uses body) x reserved h

module _ (formals : List (List ℕ)) (body : tree.Stmts) (us : List Use) (none : (x : List ℕ) → is_reserved x ≡ true → is_assigned x us ≡ false) where
  formal_in_form : (x : List ℕ) → is_reserved x ≡ true → is_among x formals ≡ true → may_be_captured formals [] body us x ≡ true
  formal_in_form x reserved among =
      or_right (not (is_captured x us)) (can_be_rebuilt formals [] body us x)
      (and_from (is_reserved x) _ reserved (chosen (is_among x formals) among))
    where
      chosen : (b : Bool) → b ≡ true → (if b then is_constant [] us x else is_opened [] body us x) ≡ true
      chosen true e = and_from (not (is_assigned x us)) true (not_from_false (is_assigned x us) (none x reserved)) refl
      chosen false e = cc e

  formals_in_form : (xs : List (List ℕ)) → list_all is_reserved xs ≡ true → ((x : List ℕ) → is_among x xs ≡ true → is_among x formals ≡ true)
      → list_all (may_be_captured formals [] body us) xs ≡ true
  formals_in_form [] reserved among = refl
  formals_in_form (x ∷ xs) reserved among =
      let parts = and_parts (is_reserved x) (list_all is_reserved xs) reserved in
      and_from (may_be_captured formals [] body us x) (list_all (may_be_captured formals [] body us) xs)
      (formal_in_form x parts.0 (among x (first x xs)))
      (formals_in_form xs parts.1 (λ y h. among y (later y x xs h)))
    where
      first : (x : List ℕ) (xs : List (List ℕ)) → is_among x (x ∷ xs) ≡ true
      first x xs = or_left (bytes_eq x x) (is_among x xs) (same_name x)

      later : (y x : List ℕ) (xs : List (List ℕ)) → is_among y xs ≡ true → is_among y (x ∷ xs) ≡ true
      later y x xs h = or_right (bytes_eq y x) (is_among y xs) h

binder_in_form : (c : tree.Code) → assigns_round (expr_uses (func c)) ≡ false → are_variables_in_form (binder c) (expr_uses (func c) ++ []) ≡ true
binder_in_form c calm =
    let us : List Use = expr_uses (func c) in
    let xs : List (List ℕ) = needed_variables c in
    let body : tree.Stmts = then_stmt (return (one_expr (func c))) no_stmts in
    let none : (x : List ℕ) → is_reserved x ≡ true → is_assigned x (us ++ []) ≡ false =
    λ x reserved. ap (is_assigned x) (append-nil us) ∙ assigns_none c x reserved calm
    in
    ap (list_all (may_be_captured xs [] body (us ++ []))) (append-nil xs)
    ∙ formals_in_form xs body (us ++ []) none xs (needed_are_reserved c) (λ x h. h)

-- ---- nodes

-- what neither the nodes round the function nor its own pass, none passes
none_passes : (t : Node → Bool) (c : tree.Code) → t (statement (expr (call (func (binder c)) no_exprs))) ≡ false
    → t (expression false (call (func (binder c)) no_exprs)) ≡ false → t (expression true (func (binder c))) ≡ false
    → t (statement (return (one_expr (func c)))) ≡ false → expr_any t false (func c) ≡ false → stmts_any t (outer c) ≡ false
none_passes t c a b d e f = or_from _ _ (or_from _ _ a (or_from _ _ b (or_from _ _ (or_from _ _ d (or_from _ _ (or_from _ _ e f) refl)) refl))) refl

abbrev KeptFunction : tree.Code → Type 0
KeptFunction c = Kept (λ t. expr_any t false (func c)) (expr_uses (func c))

test_is_not_passed : (r : Test) (c : tree.Code) → KeptFunction c → stmts_any (test_of r) (outer c) ≡ false
test_is_not_passed Formals c h = none_passes (test_of Formals) c refl refl (needed_are_apart c) refl (h.each Formals)
test_is_not_passed Fields c h = none_passes (test_of Fields) c refl refl refl refl (h.each Fields)
test_is_not_passed Deleted c h = none_passes (test_of Deleted) c refl refl refl refl (h.each Deleted)
test_is_not_passed Restricted c h = none_passes (test_of Restricted) c refl refl (needed_are_unrestricted c) refl (h.each Restricted)
test_is_not_passed Jumps c h = none_passes (test_of Jumps) c refl refl refl refl (h.each Jumps)
test_is_not_passed Targets c h = none_passes (test_of Targets) c refl refl refl refl (h.each Targets)
test_is_not_passed Own c h = none_passes (test_of Own) c refl refl refl refl (h.each Own)
test_is_not_passed Scopes c h = none_passes (test_of Scopes) c refl refl (ap (λ b. not (b && true)) (binder_in_form c h.calm)) refl (h.each Scopes)

call_keeps_rules : (c : tree.Code) → KeptFunction c → KeepsRules (outer c)
call_keeps_rules c h = record {
  formals = test_is_not_passed Formals c h;
  fields = test_is_not_passed Fields c h;
  deleted = test_is_not_passed Deleted c h;
  restricted = test_is_not_passed Restricted c h;
  returns = refl;
  jumps = or_from (strays (outer c)) (stmts_any has_stray_jump (outer c)) refl (test_is_not_passed Jumps c h);
  targets = test_is_not_passed Targets c h;
  own = test_is_not_passed Own c h;
  globals = refl;
}

call_has_form : (c : tree.Code) → KeptFunction c → FormParts (outer c)
call_has_form c h = record {
  closed = or_from (any_use_is_reserved (stmts_uses (outer c))) (any_is_reserved (declared_names (outer c))) (needed_are_all c) refl;
  top = none_passes is_declaration c refl refl refl refl h.plain;
  scopes = test_is_not_passed Scopes c h;
}

pub function_formed : (c : tree.Code) → KeptFunction c → is_formed c ≡ true
function_formed c h =
    and_from (in_form (outer c)) (is_no (early_rule (outer c))) (from_parts (outer c) (call_has_form c h))
    (ap is_no (none_is_broken (outer c) (call_keeps_rules c h)))
