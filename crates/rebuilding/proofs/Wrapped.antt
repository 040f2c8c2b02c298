-- What a function at rest is known for, as part of the script that it is wrapped in: no function is declared in it, it does not assign to its
-- own name or to what it needs, and all else that it leaves are its other names.
use Rattle.std.proofs.Common.{◌≡◌, refl, sym, ap, subst, ◌∙◌, ℕ, Bool, true, false, true≢false, cond, not, ◌&&◌, ◌||◌, List, [], ◌∷◌, ◌++◌, Option, Some, None, IsTrue, bytes_eq, filter, map, if◌then◌else◌}
use Rattle.std.specs.List.{find, list_all}
use Rattle.std.proofs.Math.Bool.{or-false, or_assoc}
use Rattle.std.proofs.lemmas.Bool.{and_parts, not-false, not-true, or_left, or_parts, or_right}
use Rattle.std.proofs.lemmas.List.{append-nil}
use Rattle.std.proofs.lemmas.List.Folds.{list_any-append}
use Rattle.std.proofs.lemmas.Slice.Eq.{bytes_eq-Decides}
use Rattle.code_table.specs.Declarations.{name_of}
use Rattle.indexmap.specs.IndexSet.{insert_all, insert_key}
use Rattle.js_core.specs.Tree as tree
use Rattle.js_core.specs.Tree.{code, func}
use Rattle.page_writer.specs.Statements.{giving}
use Rattle.heap_walker.specs.Still.{other_names, wrapped}
use Rattle.early_rules.specs.EarlyRules.{assigns_maybe, assigns_own, breaks, early_rule, early_rules}
use Rattle.script_rules.specs.Form.{has_inner_declaration, has_open_reserved, in_form, is_constant, is_opened, may_be_captured, scope_out_of_form}
use Rattle.early_rules.specs.FormNodes.{is_declaration}
use Rattle.scope_analysis.specs.Needs.{needed_variables}
use Rattle.scope_analysis.specs.Identifiers.{is_reserved}
use Rattle.scope_analysis.specs.Names.{bound_names, is_among, maybe_name}
use Rattle.scope_analysis.specs.Nodes.{code_any, stmts_any}
use Rattle.scope_analysis.specs.Scopes.{once_each}
use Rattle.scope_analysis.specs.Uses.{Use, crossing, expr_uses, is_assigned, is_captured, leaving_function, stmts_uses}
use Rattle.early_rules.specs.declared.early_rule.EarlyRule.{EarlyRule}
use Rattle.early_rules.specs.declared.early_rule.EarlyRule.TheVariants as rule
use Rattle.agreement.proofs.Callers.{all_names}
use Rattle.rebuilding.specs.Frames.{is_own}

-- ---- no function is declared in it

-- the wrapping function is called, and returns it
wrapped_declares : (c : tree.Code) → has_inner_declaration (wrapped c) ≡ false → code_any is_declaration c ≡ false
wrapped_declares c h =
    let p = or_parts _ _ h in
    let q = or_parts _ _ p.0 in
    let r = or_parts _ _ q.0 in
    r.0

pub declares_none : (x : Option (List ℕ)) (formals : List (List ℕ)) (body : tree.Stmts) → IsTrue (in_form (wrapped (code x formals body)))
    → stmts_any is_declaration body ≡ false
declares_none x formals body h =
    let script = wrapped (code x formals body) in
    let front = (and_parts (not (has_open_reserved script) && not (has_inner_declaration script)) (not (stmts_any scope_out_of_form script)) h).0 in
    let inner = (and_parts (not (has_open_reserved script)) (not (has_inner_declaration script)) front).1 in
    wrapped_declares (code x formals body) (not-true (has_inner_declaration script) inner)

-- ---- it does not assign to its own name

later : {X : Type 0} (p : X → Bool) (x : X) (xs : List X) → find p (x ∷ xs) ≡ None → find p xs ≡ None
later {X = X} p x xs h = by_case (p x) h
  where
    by_case : (b : Bool) → cond b (Some x) (find p xs) ≡ None → find p xs ≡ None
    by_case true k = cc k
    by_case false k = k

fails_at : {X : Type 0} (p : X → Bool) (xs : List X) (x : X) (ys : List X) → find p (xs ++ x ∷ ys) ≡ None → p x ≡ false
fails_at {X = X} p [] x ys h = by_case (p x) h
  where
    by_case : (b : Bool) → cond b (Some x) (find p ys) ≡ None → b ≡ false
    by_case true k = cc k
    by_case false k = refl
fails_at p (z ∷ xs) x ys h = fails_at p xs x ys (later p z (xs ++ x ∷ ys) h)

abbrev earlier : List EarlyRule
earlier =
    rule.RepeatedFormal ∷ rule.RepeatedField ∷ rule.DeletedName ∷ rule.RestrictedName ∷ rule.StrayReturn ∷ rule.StrayJump ∷ rule.BadTarget ∷ []

own_name_unbroken : (script : tree.Stmts) → early_rule script ≡ None → breaks rule.AssignedOwnName script ≡ false
unfolding early_rules
own_name_unbroken script h = fails_at (λ r. breaks r script) earlier rule.AssignedOwnName (rule.RedeclaredGlobal ∷ []) h

wrapped_assigns : (c : tree.Code) → breaks rule.AssignedOwnName (wrapped c) ≡ false → assigns_own c ≡ false
wrapped_assigns c h =
    let p = or_parts _ _ h in
    let q = or_parts _ _ p.0 in
    let r = or_parts _ _ q.0 in
    let t = or_parts _ _ r.0 in
    t.0

-- where its own name is not bound again, no use of the body assigns to it
pub own_unassigned : (x : Option (List ℕ)) (formals : List (List ℕ)) (body : tree.Stmts) → early_rule (wrapped (code x formals body)) ≡ None
    → (y : List ℕ) → is_among y (bound_names (code x formals body)) ≡ false → is_own x y ≡ true → is_assigned y (stmts_uses body) ≡ false
own_unassigned None formals body early y free own = absurd (true≢false (sym own))
own_unassigned (Some z) formals body early y free own =
    let c = code (Some z) formals body in
    let same = (bytes_eq-Decides y z).0 own in
    let other = subst (λ w. is_among w (bound_names c) ≡ false) same free in
    let kept = wrapped_assigns c (own_name_unbroken (wrapped c) early) in
    subst (λ w. is_assigned w (stmts_uses body) ≡ false) (sym same) (not_hidden (is_among z (bound_names c)) other kept)
  where
    not_hidden : (b : Bool) → b ≡ false → assigns_maybe (if b then None else Some z) (stmts_uses body) ≡ false
        → is_assigned z (stmts_uses body) ≡ false
    not_hidden true e h = absurd (true≢false e)
    not_hidden false e h = h

-- ---- what it leaves are its other names

among_passed : (p : List ℕ → Bool) (xs : List (List ℕ)) (y : List ℕ) → is_among y xs ≡ true → p y ≡ true → is_among y (filter p xs) ≡ true
among_passed p [] y h e = h
among_passed p (x ∷ xs) y h e = by_case (bytes_eq y x) refl h (among_passed p xs y)
  where
    more : (b : Bool) → is_among y (filter p xs) ≡ true → is_among y (cond b (x ∷ filter p xs) (filter p xs)) ≡ true
    more true k = or_right _ _ k
    more false k = k

    found : (b : Bool) → b ≡ true → bytes_eq y x ≡ true → is_among y (cond b (x ∷ filter p xs) (filter p xs)) ≡ true
    found true f k = or_left _ _ k
    found false f k = absurd (true≢false (sym f))

    by_case : (b : Bool) → bytes_eq y x ≡ b → (b || is_among y xs) ≡ true → (is_among y xs ≡ true → p y ≡ true → is_among y (filter p xs) ≡ true)
        → is_among y (filter p (x ∷ xs)) ≡ true
    by_case true f k r = found (p x) (ap p (sym ((bytes_eq-Decides y x).0 f)) ∙ e) f
    by_case false f k r = more (p x) (r k e)

-- a name stands among names once each where it stands among the names
once_more : (ks : List (List ℕ)) (y x : List ℕ) → is_among x (insert_key bytes_eq ks y) ≡ (is_among x ks || bytes_eq x y)
once_more ks y x = by_case (is_among y ks) refl
  where
    there : (b : Bool) → bytes_eq x y ≡ b → is_among y ks ≡ true → is_among x ks ≡ (is_among x ks || b)
    there true same old = let known = ap (λ z. is_among z ks) ((bytes_eq-Decides x y).0 same) ∙ old in rw known refl
    there false other old = sym (or-false (is_among x ks))

    by_case : (b : Bool) → is_among y ks ≡ b → is_among x (insert_key bytes_eq ks y) ≡ (is_among x ks || bytes_eq x y)
    by_case true old = rw old (there (bytes_eq x y) refl old)
    by_case false new = rw new (list_any-append (bytes_eq x) ks (y ∷ []) ∙ ap (λ b. is_among x ks || b) (or-false (bytes_eq x y)))

among_all : (ks xs : List (List ℕ)) (x : List ℕ) → is_among x (insert_all bytes_eq ks xs) ≡ (is_among x ks || is_among x xs)
among_all ks [] x = sym (or-false (is_among x ks))
among_all ks (y ∷ ys) x =
    among_all (insert_key bytes_eq ks y) ys x ∙ ap (λ b. b || is_among x ys) (once_more ks y x)
    ∙ or_assoc (is_among x ks) (bytes_eq x y) (is_among x ys)

among_once : (xs : List (List ℕ)) (x : List ℕ) → is_among x (once_each xs) ≡ is_among x xs
among_once xs x = among_all [] xs x

abbrev pub names_left : tree.Code → List (List ℕ)
names_left c = map (λ u. u.name) (expr_uses (func c))

-- where it does not need the name
pub left_are_others : (c : tree.Code) (y : List ℕ) → is_among y (names_left c) ≡ true → is_among y (needed_variables c) ≡ false
    → is_among y (other_names c) ≡ true
left_are_others c y h none = by_case (is_reserved y) refl
  where
    by_case : (b : Bool) → is_reserved y ≡ b → is_among y (other_names c) ≡ true
    by_case true e =
        let needed = among_once (filter is_reserved (names_left c)) y ∙ among_passed is_reserved (names_left c) y h e in
        absurd (true≢false (sym needed ∙ none))
    by_case false e = among_passed (λ x. not (is_reserved x)) (names_left c) y h (ap not e)

-- ---- what it needs is not assigned, nor its own name

among_kept : (p : List ℕ → Bool) (xs : List (List ℕ)) (y : List ℕ) → is_among y (filter p xs) ≡ true → is_among y xs ≡ true
among_kept p [] y h = h
among_kept p (x ∷ xs) y h = by_case (p x) h (among_kept p xs y)
  where
    by_case : (b : Bool) → is_among y (cond b (x ∷ filter p xs) (filter p xs)) ≡ true → (is_among y (filter p xs) ≡ true → is_among y xs ≡ true)
        → is_among y (x ∷ xs) ≡ true
    by_case true k r = inside (bytes_eq y x) k r
      where
        inside : (b : Bool) → (b || is_among y (filter p xs)) ≡ true → (is_among y (filter p xs) ≡ true → is_among y xs ≡ true)
            → (b || is_among y xs) ≡ true
        inside true k r = refl
        inside false k r = r k
    by_case false k r = or_right _ _ (r k)

-- it leaves what it needs
pub needed_left : (c : tree.Code) (y : List ℕ) → is_among y (needed_variables c) ≡ true → is_among y (names_left c) ≡ true
needed_left c y h = among_kept is_reserved (names_left c) y (sym (among_once (filter is_reserved (names_left c)) y) ∙ h)

-- what is left is not bound
left_free : (bound : List (List ℕ)) (us : List Use) (y : List ℕ) → is_among y (map (λ u. u.name) (leaving_function bound us)) ≡ true
    → is_among y bound ≡ false
left_free bound [] y h = cc h
left_free bound (u ∷ us) y h = by_case (is_among u.name bound) refl h (left_free bound us y)
  where
    at_head : (b : Bool) → bytes_eq y u.name ≡ b → is_among u.name bound ≡ false
        → (b || is_among y (map (λ u. u.name) (leaving_function bound us))) ≡ true
        → (is_among y (map (λ u. u.name) (leaving_function bound us)) ≡ true → is_among y bound ≡ false) → is_among y bound ≡ false
    at_head true same e k r = ap (λ z. is_among z bound) ((bytes_eq-Decides y u.name).0 same) ∙ e
    at_head false other e k r = r k

    by_case : (b : Bool) → is_among u.name bound ≡ b
        → is_among y (map (λ u. u.name) (if b then leaving_function bound us else (crossing u ∷ leaving_function bound us))) ≡ true
        → (is_among y (map (λ u. u.name) (leaving_function bound us)) ≡ true → is_among y bound ≡ false) → is_among y bound ≡ false
    by_case true e k r = r k
    by_case false e k r = at_head (bytes_eq y u.name) refl e k r

pub needed_not_own : (c : tree.Code) (y : List ℕ) → is_among y (needed_variables c) ≡ true → is_own (name_of c) y ≡ false
needed_not_own (code None formals body) y h = refl
needed_not_own (code (Some x) formals body) y h =
    (or_parts _ _ (left_free (x ∷ bound_names (code (Some x) formals body)) (stmts_uses body) y (needed_left (code (Some x) formals body) y h))).0

-- a function inside the wrapping one uses what is left
left_captured : (bound : List (List ℕ)) (us : List Use) (y : List ℕ) → is_among y (map (λ u. u.name) (leaving_function bound us)) ≡ true
    → is_captured y (leaving_function bound us) ≡ true
left_captured bound [] y h = h
left_captured bound (u ∷ us) y h = by_case (is_among u.name bound) h (left_captured bound us y)
  where
    at_head : (b : Bool) → bytes_eq y u.name ≡ b → (b || is_among y (map (λ u. u.name) (leaving_function bound us))) ≡ true
        → (is_among y (map (λ u. u.name) (leaving_function bound us)) ≡ true → is_captured y (leaving_function bound us) ≡ true)
        → is_captured y (crossing u ∷ leaving_function bound us) ≡ true
    at_head true same k r =
        or_left (bytes_eq u.name y) (is_captured y (leaving_function bound us))
        ((bytes_eq-Decides u.name y).1 (sym ((bytes_eq-Decides y u.name).0 same)))
    at_head false other k r = or_right (bytes_eq u.name y) (is_captured y (leaving_function bound us)) (r k)

    by_case : (b : Bool)
        → is_among y (map (λ u. u.name) (if b then leaving_function bound us else (crossing u ∷ leaving_function bound us))) ≡ true
        → (is_among y (map (λ u. u.name) (leaving_function bound us)) ≡ true → is_captured y (leaving_function bound us) ≡ true)
        → is_captured y (if b then leaving_function bound us else (crossing u ∷ leaving_function bound us)) ≡ true
    by_case true k r = r k
    by_case false k r = at_head (bytes_eq y u.name) refl k r

names_captured : (c : tree.Code) (y : List ℕ) → is_among y (names_left c) ≡ true → is_captured y (expr_uses (func c)) ≡ true
names_captured (code x formals body) y h = left_captured (maybe_name x ++ bound_names (code x formals body)) (stmts_uses body) y h

-- the function of the needed variables, which stands round it
abbrev round : tree.Code → tree.Code
round c = code None (needed_variables c) (giving c)

abbrev fits_round : tree.Code → List Use → List ℕ → Bool
fits_round c uses y = may_be_captured (needed_variables c) [] (giving c) uses y

round_in_form : (c : tree.Code) → stmts_any scope_out_of_form (wrapped c) ≡ false
    → list_all (fits_round c (expr_uses (func c) ++ [])) (needed_variables c ++ []) ≡ true
round_in_form c h =
    let p = or_parts _ _ h in
    let q = or_parts _ _ p.0 in
    let r = or_parts _ _ q.0 in
    (and_parts _ _ (not-false _ r.0)).0

constant : (c : tree.Code) (uses : List Use) (y : List ℕ) → fits_round c uses y ≡ true → is_captured y uses ≡ true
    → is_among y (needed_variables c) ≡ true → is_assigned y uses ≡ false
constant c uses y fits captured needed =
    by_case (is_captured y uses) (is_among y (needed_variables c)) captured needed fits
  where
    by_case : (a b : Bool) → a ≡ true → b ≡ true
        → (not a || (is_reserved y && (if b then is_constant [] uses y else is_opened [] (giving c) uses y))) ≡ true
        → is_assigned y uses ≡ false
    by_case false b e f k = absurd (true≢false (sym e))
    by_case true false e f k = absurd (true≢false (sym f))
    by_case true true e f k = not-true (is_assigned y uses) (and_parts _ _ (and_parts (is_reserved y) (is_constant [] uses y) k).1).0

-- it assigns nothing that it needs
pub needed_unassigned : (c : tree.Code) → IsTrue (in_form (wrapped c)) → (y : List ℕ) → is_among y (needed_variables c) ≡ true
    → is_assigned y (expr_uses (func c)) ≡ false
needed_unassigned c h y needed =
    let script = wrapped c in
    let front = and_parts (not (has_open_reserved script) && not (has_inner_declaration script)) (not (stmts_any scope_out_of_form script)) h in
    let all = round_in_form c (not-true (stmts_any scope_out_of_form script) front.1) in
    let all_same = subst (λ us. list_all (fits_round c us) (needed_variables c ++ []) ≡ true) (append-nil (expr_uses (func c))) all in
    let all_needed = subst (λ xs. list_all (fits_round c (expr_uses (func c))) xs ≡ true) (append-nil (needed_variables c)) all_same in
    constant c (expr_uses (func c)) y (all_names (fits_round c (expr_uses (func c))) (needed_variables c) y all_needed needed)
    (names_captured c y (needed_left c y needed)) needed
