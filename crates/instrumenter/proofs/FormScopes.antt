-- The scopes of an opened script are in form: what functions inside use is the object of the scope, or the parameter of the clause.
use Rattle.std.proofs.Common.{◌≡◌, refl, sym, ap, subst, ◌∙◌, ℕ, Bool, true, false, ◌&&◌, List, [], ◌∷◌, ◌++◌, inl, inr, Option, Some, None, bytes_eq, if◌then◌else◌}
use Rattle.std.specs.List.{list_any}
use Rattle.std.proofs.lemmas.Bool.{and_from, and_right, both_ways, false_from_ne_true, not_from_false, not_from_true, or_left, or_parts, or_right}
use Rattle.std.proofs.lemmas.Slice.Eq.{bytes_eq-Decides}
use Rattle.js_core.specs.Tree as tree
use Rattle.js_core.specs.Tree.{code, name, no_fields, no_stmts, then_field, then_stmt}
use Rattle.js_grammar.specs.Syntax.{AreStmts}
use Rattle.early_rules.specs.EarlyRules.{assigns_maybe, assigns_own}
use Rattle.script_rules.specs.Form.{are_plain_fields, are_variables_in_form, boxes, can_be_rebuilt, is_clause_out_of_form, is_declaration_out_of_form, is_expression_out_of_form, is_not_captured, is_once, is_plain_value, may_be_captured, opens_with}
use Rattle.scope_analysis.specs.Uses.{Use, assignment, fields_uses, is_assigned, is_assigned_once, is_captured, read, stmts_uses}
use Rattle.scope_analysis.specs.Identifiers.{is_reserved}
use Rattle.scope_analysis.specs.Names.{declared_names, is_among, maybe_name, own_name}
use Rattle.instrumenter.specs.Around.{append, clause_object, field_inside, literal_fields, next_number, parameter, scope_name, scope_object, valued_names, void_zero}
use Rattle.instrumenter.specs.Fields.{clause_fields, fields_in, has_fields}
use Rattle.instrumenter.specs.Opening.{open_stmts}
use Rattle.instrumenter.proofs.Each.{Among, Each, Fails, Missing, all_pass, each_always, each_among, each_at, each_both, each_fails, each_so, none_passes, same_name}
use Rattle.instrumenter.proofs.Leaving.{Declaring, Through, among_left, among_parts, among_right, declarations_inside, declared_inside, fields_inside, if_captured, names_inside, object_uses, opened_as, opened_inside, statements_inside, uses_append, value_uses}
use Rattle.instrumenter.proofs.OnceNames.{captured_is_field}
use Rattle.instrumenter.proofs.OpenedNames.{append_both, declarations_from, opening, stmts_from}
use Rattle.instrumenter.proofs.OpenedUses.{declarations_opened, stmts_opened}

-- ---- names of objects

pub other_than_object : (x : List ℕ) (n : ℕ) → is_reserved x ≡ false → bytes_eq x (scope_name n) ≡ false
other_than_object x n h = false_from_ne_true (bytes_eq x (scope_name n)) (λ e. both_ways (is_reserved (scope_name n)) (subst (λ y. is_reserved y ≡ false) ((bytes_eq-Decides x (scope_name n)).0 e) h) refl)

pub object_is_other : (n : ℕ) (x : List ℕ) → is_reserved x ≡ false → bytes_eq (scope_name n) x ≡ false
object_is_other n x h = false_from_ne_true (bytes_eq (scope_name n) x) (λ e. both_ways (is_reserved (scope_name n)) (subst (λ y. is_reserved y ≡ false) (sym ((bytes_eq-Decides (scope_name n) x).0 e)) h) refl)

-- ---- the object

plain_values : (valued fields : List (List ℕ)) → are_plain_fields (literal_fields valued fields) ≡ true
plain_values valued [] = refl
plain_values valued (x ∷ xs) = and_from _ _ (by (is_among x valued)) (plain_values valued xs)
  where
    by : (b : Bool) → is_plain_value (if b then name x else void_zero) ≡ true
    by true = refl
    by false = refl

-- what an opened function has in the first place
begins : (n : ℕ) (valued fields : List (List ℕ)) (ss : tree.Stmts) → has_fields fields ≡ true → opens_with (scope_name n) (scope_object n valued fields ss) ≡ true
begins n valued [] ss e = cc e
begins n valued (x ∷ xs) ss e = and_from _ _ (same_name (scope_name n)) (plain_values valued (x ∷ xs))

object_names : (P : List ℕ → Type 0) (n : ℕ) (valued fields : List (List ℕ)) (ss : tree.Stmts) → (has_fields fields ≡ true → P (scope_name n)) → Each P (declared_names ss)
    → Each P (declared_names (scope_object n valued fields ss))
object_names P n valued [] ss one h = h
object_names P n valued (x ∷ xs) ss one h = (one refl, h)

declared_once : (n : ℕ) (valued fields : List (List ℕ)) (ss : tree.Stmts) → has_fields fields ≡ true → Missing (scope_name n) (declared_names ss)
    → is_once (scope_name n) (declared_names (scope_object n valued fields ss)) ≡ true
declared_once n valued [] ss e h = cc e
declared_once n valued (x ∷ xs) ss e h = rw (same_name (scope_name n), h) refl

-- an assignment to the name
abbrev Assigning : List ℕ → Use → Type 0
Assigning x u = (u.assigns && bytes_eq u.name x) ≡ false

-- a use of the name by a function inside
abbrev Capturing : List ℕ → Use → Type 0
Capturing x u = (u.crosses && bytes_eq u.name x) ≡ false

assigned_once : (n : ℕ) (valued fields : List (List ℕ)) (ss : tree.Stmts) → has_fields fields ≡ true → Each (Assigning (scope_name n)) (stmts_uses ss)
    → is_assigned_once (scope_name n) (stmts_uses (scope_object n valued fields ss)) ≡ true
assigned_once n valued [] ss e h = cc e
assigned_once n valued (x ∷ xs) ss e h =
    let values : List Use = fields_uses (literal_fields valued (x ∷ xs)) ++ [] in
    let reads : Each (Assigning (scope_name n)) values =
    each_both (Assigning (scope_name n)) (fields_uses (literal_fields valued (x ∷ xs))) [] (value_uses (Assigning (scope_name n)) valued (x ∷ xs) (λ y there. refl)) tt in
    rw (same_name (scope_name n)) (not_from_false (is_assigned (scope_name n) (values ++ stmts_uses ss))
    (none_passes (λ (u : Use). u.assigns && bytes_eq u.name (scope_name n)) (values ++ stmts_uses ss) (each_both (Assigning (scope_name n)) values (stmts_uses ss) reads h)))

-- ---- functions

module _ (f : List ℕ → Option ℕ) (n : ℕ) (own x : Option (List ℕ)) (formals : List (List ℕ)) (body : tree.Stmts) where
  abbrev pub its_fields : List (List ℕ)
  its_fields = fields_in own (code x formals body)

  abbrev pub its_names : List (List ℕ)
  its_names = names_inside f n its_fields own x formals body

  -- the fields of a name here, and the body
  abbrev pub inside : List ℕ → Option ℕ
  inside = fields_inside f n its_fields own x formals body

  abbrev pub after : tree.Stmts
  after = opened_inside f n its_fields own x formals body

  abbrev pub behind : tree.Stmts
  behind = append (declarations_inside f n its_fields own x formals body) (statements_inside f n its_fields own x formals body)

  field_stands : (y : List ℕ) → Among y its_fields → inside y ≡ Some n
  field_stands y there = rw (there) refl

  module _ (is : AreStmts true body) where
    uses_behind : (P : Use → Type 0) → Each (Declaring P inside (λ y. is_among y its_fields)) (declared_names body) → Each (Through P inside) (stmts_uses body)
        → Each P (stmts_uses behind)
    uses_behind P d h =
        rw (uses_append (declarations_inside f n its_fields own x formals body) (statements_inside f n its_fields own x formals body))
        (each_both P _ _ (declarations_opened P inside (λ y. is_among y its_fields) (next_number its_fields n) body is d h)
        (stmts_opened P inside (λ y. is_among y its_fields) (next_number its_fields n) true body is h))

    uses_after : (P : Use → Type 0) → (has_fields its_fields ≡ true → P (assignment (scope_name n)))
        → ((y : List ℕ) → Among y (valued_names own (code x formals body)) → P (read y))
        → Each (Declaring P inside (λ y. is_among y its_fields)) (declared_names body) → Each (Through P inside) (stmts_uses body)
        → Each P (stmts_uses after)
    uses_after P one values d h = object_uses P n (valued_names own (code x formals body)) its_fields behind one values (uses_behind P d h)

    -- a variable is used by no function inside, or is a field, for which its object stands
    capture_opened : (y : List ℕ) → is_reserved y ≡ false → (b : Bool) → is_captured y (stmts_uses body) ≡ b → (b ≡ true → inside y ≡ Some n)
        → Each (Through (Capturing y) inside) (stmts_uses body)
    capture_opened y free true e field = each_always (Through (Capturing y) inside) (λ u. by u (inside u.name) refl) (stmts_uses body)
      where
        by : (u : Use) (o : Option ℕ) → inside u.name ≡ o → Capturing y (opened_as o u)
        by u None none = and_right u.crosses (bytes_eq u.name y) (false_from_ne_true (bytes_eq u.name y)
            (λ same. cc (sym none ∙ subst (λ z. inside z ≡ Some n) (sym ((bytes_eq-Decides u.name y).0 same)) (field refl))))
        by u (Some k) some = and_right u.crosses (bytes_eq (scope_name k) y) (object_is_other k y free)
    capture_opened y free false e field =
        each_so (Capturing y) (Through (Capturing y) inside) (λ u away. by u (inside u.name) away) (stmts_uses body)
        (each_fails (λ (u : Use). u.crosses && bytes_eq u.name y) (stmts_uses body) e)
      where
        by : (u : Use) (o : Option ℕ) → Capturing y u → Capturing y (opened_as o u)
        by u None away = away
        by u (Some k) away = and_right u.crosses (bytes_eq (scope_name k) y) (object_is_other k y free)

    not_captured : (y : List ℕ) → is_reserved y ≡ false → Among y its_names → is_captured y (stmts_uses after) ≡ false
    not_captured y free there =
        none_passes (λ (u : Use). u.crosses && bytes_eq u.name y) (stmts_uses after)
        (uses_after (Capturing y) (λ e. refl) (λ z k. refl) (each_always (Declaring (Capturing y) inside (λ z. is_among z its_fields)) (λ z. ((λ e. here (inside z) z), (λ e. refl))) (declared_names body))
        (capture_opened y free (is_captured y (stmts_uses body)) refl (λ e. field_stands y (captured_is_field own x formals body y e there))))
      where
        here : (o : Option ℕ) (z : List ℕ) → Capturing y (opened_as o (assignment z))
        here None z = refl
        here (Some k) z = refl

    -- no identifier of the function is a reserved name
    module _ (uses : Each (λ (u : Use). is_reserved u.name ≡ false) (stmts_uses body)) (formal_free : list_any is_reserved formals ≡ false) (declared_free : Each (Fails is_reserved) (declared_names body)) where
      object_unassigned : Each (Assigning (scope_name n)) (stmts_uses behind)
      object_unassigned =
          uses_behind (Assigning (scope_name n))
          (each_so (Fails is_reserved) (Declaring (Assigning (scope_name n)) inside (λ y. is_among y its_fields))
          (λ y free. ((λ e. written (inside y) y free), (λ e. other_than_object y n free))) (declared_names body) declared_free)
          (each_so (λ (u : Use). is_reserved u.name ≡ false) (Through (Assigning (scope_name n)) inside) (λ u free. used (inside u.name) u free) (stmts_uses body) uses)
        where
          written : (o : Option ℕ) (y : List ℕ) → is_reserved y ≡ false → Assigning (scope_name n) (opened_as o (assignment y))
          written None y free = other_than_object y n free
          written (Some k) y free = refl

          used : (o : Option ℕ) (u : Use) → is_reserved u.name ≡ false → Assigning (scope_name n) (opened_as o u)
          used None u free = and_right u.assigns (bytes_eq u.name (scope_name n)) (other_than_object u.name n free)
          used (Some k) u free = refl

      object_undeclared : Missing (scope_name n) (declared_names behind)
      object_undeclared =
          let Q : List ℕ → Type 0 = Fails (bytes_eq (scope_name n)) in
          let free : Each Q (declared_names body) = each_so (Fails is_reserved) Q (λ y h. object_is_other n y h) (declared_names body) declared_free in
          none_passes (bytes_eq (scope_name n)) (declared_names behind)
          (append_both Q (declarations_inside f n its_fields own x formals body) (statements_inside f n its_fields own x formals body)
          (declarations_from Q inside (λ y. is_among y its_fields) (next_number its_fields n) body free)
          (stmts_from Q inside (λ y. is_among y its_fields) (next_number its_fields n) body free))

      object_is_no_formal : is_among (scope_name n) formals ≡ false
      object_is_no_formal = none_passes (bytes_eq (scope_name n)) formals
          (each_so (Fails is_reserved) (Fails (bytes_eq (scope_name n))) (λ y h. object_is_other n y h) formals (each_fails is_reserved formals formal_free))

      object_can : has_fields its_fields ≡ true → can_be_rebuilt formals (declared_names after) after (stmts_uses after) (scope_name n) ≡ true
      object_can e =
          let valued : List (List ℕ) = valued_names own (code x formals body) in
          and_from (is_reserved (scope_name n)) _ refl
          (rw (object_is_no_formal)
          (and_from (opens_with (scope_name n) after) _ (begins n valued its_fields behind e)
          (and_from (is_once (scope_name n) (declared_names after)) (is_assigned_once (scope_name n) (stmts_uses after))
          (declared_once n valued its_fields behind e object_undeclared)
          (assigned_once n valued its_fields behind e object_unassigned))))

      pub variables_in_form : (z : Option (List ℕ)) → are_variables_in_form (code z formals after) (stmts_uses after) ≡ true
      variables_in_form z =
          let test : List ℕ → Bool = may_be_captured formals (declared_names after) after (stmts_uses after) in
          let P : List ℕ → Type 0 = λ y. test y ≡ true in
          let plain : (y : List ℕ) → is_reserved y ≡ false → Among y its_names → test y ≡ true =
          λ y free there. or_left _ _ (not_from_false _ (not_captured y free there)) in
          let ds : List (List ℕ) = declared_names body in
          let bound : (y : List ℕ) → Among y (formals ++ ds) → Among y its_names = λ y there. among_right y (maybe_name own) (formals ++ ds) there in
          all_pass test (formals ++ declared_names after)
          (each_both P formals (declared_names after)
          (each_among P formals (λ y there. plain y (each_at (Fails is_reserved) formals y (each_fails is_reserved formals formal_free) there) (bound y (among_left y formals ds there))))
          (object_names P n (valued_names own (code x formals body)) its_fields behind (λ e. or_right _ _ (object_can e))
          (names_behind P (each_among P ds (λ y there. plain y (each_at (Fails is_reserved) ds y declared_free there) (bound y (among_right y formals ds there)))))))
        where
          names_behind : (P : List ℕ → Type 0) → Each P (declared_names body) → Each P (declared_names behind)
          names_behind P h =
              append_both P (declarations_inside f n its_fields own x formals body) (statements_inside f n its_fields own x formals body)
              (declarations_from P inside (λ y. is_among y its_fields) (next_number its_fields n) body h)
              (stmts_from P inside (λ y. is_among y its_fields) (next_number its_fields n) body h)

-- ---- the own name of a function expression

own_there : (z : List ℕ) (formals : List (List ℕ)) (body : tree.Stmts)
    → Among z (maybe_name (own_name (code (Some z) formals body)) ++ (formals ++ declared_names body))
own_there z formals body = by (is_among z (formals ++ declared_names body)) refl
  where
    by : (b : Bool) → is_among z (formals ++ declared_names body) ≡ b → Among z (maybe_name (if b then None else Some z) ++ (formals ++ declared_names body))
    by true there = there
    by false there = or_left (bytes_eq z z) _ (same_name z)

-- the body of a function expression, opened
abbrev pub expression_after : (List ℕ → Option ℕ) → ℕ → Option (List ℕ) → List (List ℕ) → tree.Stmts → tree.Stmts
expression_after f n x formals body = after f n (own_name (code x formals body)) x formals body

own_uncaptured : (f : List ℕ → Option ℕ) (n : ℕ) (x : Option (List ℕ)) (formals : List (List ℕ)) (body : tree.Stmts) → AreStmts true body → list_any is_reserved (maybe_name x) ≡ false
    → is_not_captured (own_name (code x formals (expression_after f n x formals body))) (stmts_uses (expression_after f n x formals body)) ≡ true
own_uncaptured f n None formals body is free = refl
own_uncaptured f n (Some z) formals body is free =
    at (is_among z (formals ++ declared_names (expression_after f n (Some z) formals body)))
    (not_captured f n (own_name (code (Some z) formals body)) (Some z) formals body is z (or_parts (is_reserved z) false free).0 (own_there z formals body))
  where
    at : (b : Bool) → is_captured z (stmts_uses (expression_after f n (Some z) formals body)) ≡ false
        → is_not_captured (if b then None else Some z) (stmts_uses (expression_after f n (Some z) formals body)) ≡ true
    at true e = refl
    at false e = not_from_false _ e

-- nothing assigns to the name, which is no field
unassigned : (f : List ℕ → Option ℕ) (n : ℕ) (own x : Option (List ℕ)) (formals : List (List ℕ)) (body : tree.Stmts) → AreStmts true body → (z : List ℕ)
    → is_reserved z ≡ false → Missing z (formals ++ declared_names (after f n own x formals body))
    → Each (Through (Assigning z) (inside f n own x formals body)) (stmts_uses body)
    → is_assigned z (stmts_uses (after f n own x formals body)) ≡ false
unassigned f n own x formals body is z free away h =
    let P : Use → Type 0 = Assigning z in
    let fields : List (List ℕ) = its_fields f n own x formals body in
    let inner : List ℕ → Option ℕ = inside f n own x formals body in
    let later : List (List ℕ) = declared_names (after f n own x formals body) in
    none_passes (λ (u : Use). u.assigns && bytes_eq u.name z) (stmts_uses (after f n own x formals body))
    (uses_after f n own x formals body is P (λ e. object_is_other n z free) (λ y k. refl)
    (each_among (Declaring P inner (λ y. is_among y fields)) (declared_names body) (λ y there. (
      (λ e. subst (λ o. P (opened_as o (assignment y))) (sym (field_stands f n own x formals body y e)) refl),
      (λ e. false_from_ne_true (bytes_eq y z) (λ same.
          let lost : Among z (formals ++ later) = subst (λ v. Among v (formals ++ later)) ((bytes_eq-Decides y z).0 same)
          (among_right y formals later (declared_inside f n fields own x formals body is y there e)) in
          both_ways (is_among z (formals ++ later)) away lost)),
    ))) h)

-- what uses of the own name become assigns to it nowhere
own_used : (f : List ℕ → Option ℕ) (n : ℕ) (z : List ℕ) (formals : List (List ℕ)) (body : tree.Stmts) → AreStmts true body
    → Missing z (formals ++ declared_names (expression_after f n (Some z) formals body)) → assigns_own (code (Some z) formals body) ≡ false
    → (b : Bool) → is_among z (its_fields f n (own_name (code (Some z) formals body)) (Some z) formals body) ≡ b
    → Each (Through (Assigning z) (inside f n (own_name (code (Some z) formals body)) (Some z) formals body)) (stmts_uses body)
own_used f n z formals body is away kept true field =
    each_always (Through (Assigning z) (inside f n (own_name (code (Some z) formals body)) (Some z) formals body))
    (λ u. by u (inside f n (own_name (code (Some z) formals body)) (Some z) formals body u.name) refl) (stmts_uses body)
  where
    by : (u : Use) (o : Option ℕ) → inside f n (own_name (code (Some z) formals body)) (Some z) formals body u.name ≡ o → Assigning z (opened_as o u)
    by u None none = and_right u.assigns (bytes_eq u.name z) (false_from_ne_true (bytes_eq u.name z)
        (λ same. cc (sym none ∙ (ap (inside f n (own_name (code (Some z) formals body)) (Some z) formals body) ((bytes_eq-Decides u.name z).0 same)
        ∙ field_stands f n (own_name (code (Some z) formals body)) (Some z) formals body z field))))
    by u (Some k) some = refl
own_used f n z formals body is away kept false field =
    each_so (Assigning z) (Through (Assigning z) (inside f n (own_name (code (Some z) formals body)) (Some z) formals body)) (λ u h. by u (inside f n (own_name (code (Some z) formals body)) (Some z) formals body u.name) h) (stmts_uses body)
    (each_fails (λ (u : Use). u.assigns && bytes_eq u.name z) (stmts_uses body) (original (is_among z (formals ++ declared_names body)) refl kept))
  where
    by : (u : Use) (o : Option ℕ) → Assigning z u → Assigning z (opened_as o u)
    by u None h = h
    by u (Some k) h = refl

    still : Among z (formals ++ declared_names body) → Among z (formals ++ declared_names (expression_after f n (Some z) formals body))
    still there = elim (among_parts z formals (declared_names body) there) [
      | inl here ↦ among_left z formals (declared_names (expression_after f n (Some z) formals body)) here
      | inr here ↦ among_right z formals (declared_names (expression_after f n (Some z) formals body))
          (declared_inside f n (its_fields f n (own_name (code (Some z) formals body)) (Some z) formals body) (own_name (code (Some z) formals body)) (Some z) formals body is z here field)
    ]

    original : (b : Bool) → is_among z (formals ++ declared_names body) ≡ b → assigns_maybe (if b then None else Some z) (stmts_uses body) ≡ false → is_assigned z (stmts_uses body) ≡ false
    original false free h = h
    original true there h = absurd (both_ways (is_among z (formals ++ declared_names (expression_after f n (Some z) formals body))) away (still there))

pub own_stays_unassigned : (f : List ℕ → Option ℕ) (n : ℕ) (x : Option (List ℕ)) (formals : List (List ℕ)) (body : tree.Stmts) → AreStmts true body
    → list_any is_reserved (maybe_name x) ≡ false → assigns_own (code x formals body) ≡ false → assigns_own (code x formals (expression_after f n x formals body)) ≡ false
own_stays_unassigned f n None formals body is free kept = refl
own_stays_unassigned f n (Some z) formals body is free kept = by (is_among z (formals ++ declared_names (expression_after f n (Some z) formals body))) refl
  where
    by : (b : Bool) → is_among z (formals ++ declared_names (expression_after f n (Some z) formals body)) ≡ b
        → assigns_maybe (if b then None else Some z) (stmts_uses (expression_after f n (Some z) formals body)) ≡ false
    by true there = refl
    by false away =
        let own : Option (List ℕ) = own_name (code (Some z) formals body) in
        unassigned f n own (Some z) formals body is z (or_parts (is_reserved z) false free).0 away
        (own_used f n z formals body is away kept (is_among z (its_fields f n own (Some z) formals body)) refl)

-- ---- functions in form

pub expression_in_form : (f : List ℕ → Option ℕ) (n : ℕ) (x : Option (List ℕ)) (formals : List (List ℕ)) (body : tree.Stmts) → AreStmts true body
    → Each (λ (u : Use). is_reserved u.name ≡ false) (stmts_uses body) → list_any is_reserved formals ≡ false → Each (Fails is_reserved) (declared_names body)
    → list_any is_reserved (maybe_name x) ≡ false
    → is_expression_out_of_form (code x formals (expression_after f n x formals body)) ≡ false
expression_in_form f n x formals body is uses formal_free declared_free free =
    not_from_true _ (and_from _ _ (variables_in_form f n (own_name (code x formals body)) x formals body is uses formal_free declared_free x) (own_uncaptured f n x formals body is free))

-- the function of a declaration, as an expression and where it stays
pub declaration_in_form : (f : List ℕ → Option ℕ) (n : ℕ) (x : Option (List ℕ)) (formals : List (List ℕ)) (body : tree.Stmts) → AreStmts true body
    → Each (λ (u : Use). is_reserved u.name ≡ false) (stmts_uses body) → list_any is_reserved formals ≡ false → Each (Fails is_reserved) (declared_names body)
    → (is_expression_out_of_form (code None formals (after f n None x formals body)) ≡ false) × (is_declaration_out_of_form (code x formals (after f n None x formals body)) ≡ false)
declaration_in_form f n x formals body is uses formal_free declared_free = (
  not_from_true _ (and_from _ _ (variables_in_form f n None x formals body is uses formal_free declared_free None) refl),
  not_from_true _ (variables_in_form f n None x formals body is uses formal_free declared_free x),
)

-- ---- catch clauses

-- the block of a catch clause, opened
abbrev pub block_after : (List ℕ → Option ℕ) → (List ℕ → Bool) → ℕ → List ℕ → List (List ℕ) → tree.Stmts → tree.Stmts
block_after f w n x fields ss = clause_object n fields (open_stmts (opening (field_inside fields (x ∷ []) n f) w) (next_number fields n) ss)

pub clause_in_form : (f : List ℕ → Option ℕ) (w : List ℕ → Bool) (n : ℕ) (x : List ℕ) (ss : tree.Stmts) → AreStmts false ss
    → Each (λ (u : Use). is_reserved u.name ≡ false) (stmts_uses ss) → is_reserved x ≡ false
    → is_clause_out_of_form (parameter n (clause_fields x ss) x) (block_after f w n x (clause_fields x ss) ss) ≡ false
clause_in_form f w n x ss is uses free = by (is_captured x (stmts_uses ss)) refl
  where
    inner : (b : Bool) → List ℕ → Option ℕ
    inner b = field_inside (if_captured b x) (x ∷ []) n f

    used : (o : Option ℕ) (u : Use) → is_reserved u.name ≡ false → Assigning (scope_name n) (opened_as o u)
    used None u away = and_right u.assigns (bytes_eq u.name (scope_name n)) (other_than_object u.name n away)
    used (Some k) u away = refl

    boxed : (ts : tree.Stmts) → boxes (scope_name n) (clause_object n (x ∷ []) ts) ≡ true
    boxed ts = and_from _ _ (same_name (scope_name n)) (same_name (scope_name n))

    crossed : (o : Option ℕ) (u : Use) → Capturing x u → Capturing x (opened_as o u)
    crossed None u away = away
    crossed (Some k) u away = and_right u.crosses (bytes_eq (scope_name k) x) (object_is_other k x free)

    by : (b : Bool) → is_captured x (stmts_uses ss) ≡ b → is_clause_out_of_form (parameter n (if_captured b x) x) (block_after f w n x (if_captured b x) ss) ≡ false
    by true e =
        let P : Use → Type 0 = Assigning (scope_name n) in
        let f1 : List ℕ → Option ℕ = field_inside (x ∷ []) (x ∷ []) n f in
        let ts : tree.Stmts = open_stmts (opening f1 w) (next_number (x ∷ []) n) ss in
        let once : is_assigned_once (scope_name n) (stmts_uses (clause_object n (x ∷ []) ts)) ≡ true =
        rw (same_name (scope_name n)) (not_from_false _ (none_passes (λ (u : Use). u.assigns && bytes_eq u.name (scope_name n)) (read (scope_name n) ∷ stmts_uses ts) (
          refl,
          stmts_opened P f1 w (next_number (x ∷ []) n) false ss is
              (each_so (λ (u : Use). is_reserved u.name ≡ false) (Through P f1) (λ u away. used (f1 u.name) u away) (stmts_uses ss) uses),
        ))) in
        not_from_true _ (or_right _ _ (and_from (is_reserved (scope_name n)) _ refl (and_from _ _ (boxed ts) once)))
    by false e =
        let P : Use → Type 0 = Capturing x in
        let f1 : List ℕ → Option ℕ = field_inside [] (x ∷ []) n f in
        let ts : tree.Stmts = open_stmts (opening f1 w) (next_number [] n) ss in
        let away : is_captured x (stmts_uses ts) ≡ false =
        none_passes (λ (u : Use). u.crosses && bytes_eq u.name x) (stmts_uses ts)
        (stmts_opened P f1 w (next_number [] n) false ss is
        (each_so P (Through P f1) (λ u h. crossed (f1 u.name) u h) (stmts_uses ss) (each_fails (λ (u : Use). u.crosses && bytes_eq u.name x) (stmts_uses ss) e))) in
        not_from_true _ (or_left _ _ (not_from_false _ away))
