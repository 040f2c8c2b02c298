-- What opening makes of a use of a name, and which uses an opened function or catch clause leaves to the scopes round it.
use Rattle.std.proofs.Common.{◌≡◌, refl, sym, subst, ℕ, Bool, true, false, ◌||◌, List, [], ◌∷◌, ◌++◌, ◌⊎◌, inl, inr, Option, Some, None, append_assoc, bytes_eq, if◌then◌else◌}
use Rattle.std.proofs.lemmas.Bool.{both_ways, false_from_ne_true, or_cases, or_from, or_left, or_parts, or_right, true_from_ne_false}
use Rattle.std.proofs.lemmas.List.Folds.{list_any-append}
use Rattle.std.proofs.lemmas.Slice.Eq.{bytes_eq-Decides}
use Rattle.js_core.specs.Tree as tree
use Rattle.js_core.specs.Tree.{code, name, no_stmts, then_stmt}
use Rattle.js_grammar.specs.Syntax.{AreStmts}
use Rattle.scope_analysis.specs.Names.{bound_names, declared_names, is_among, maybe_name, own_name}
use Rattle.scope_analysis.specs.Uses.{Use, assignment, crossing, expr_uses, leaving_clause, leaving_function, read, stmt_uses, stmts_uses, fields_uses}
use Rattle.instrumenter.specs.Around.{append, clause_object, field_inside, literal_fields, next_number, parameter, scope_name, scope_object, valued_names, void_zero}
use Rattle.instrumenter.specs.Fields.{has_fields}
use Rattle.instrumenter.specs.Opening.{open_declarations, open_stmts}
use Rattle.instrumenter.proofs.Each.{Among, Each, Fails, Missing, each_among, each_both, each_fails, each_so, none_passes, same_name}
use Rattle.instrumenter.proofs.KeptNames.{top_kept}
use Rattle.instrumenter.proofs.OpenedNames.{append_parts, opening}

-- ---- uses

-- a use of a field is a read of the object, where it was an assignment, too
abbrev pub opened_as : Option ℕ → Use → Use
opened_as None u = u
opened_as (Some k) u = record { name = scope_name k; assigns = false; crosses = u.crosses }

abbrev pub opened_use : (List ℕ → Option ℕ) → Use → Use
opened_use f u = opened_as (f u.name) u

-- P holds of what opening makes of it
abbrev pub Through : (Use → Type 0) → (List ℕ → Option ℕ) → Use → Type 0
Through P f u = P (opened_use f u)

crossing_same : (o : Option ℕ) (u : Use) → opened_as o (crossing u) ≡ crossing (opened_as o u)
crossing_same None u = refl
crossing_same (Some k) u = refl

-- ---- names

pub among_parts : (y : List ℕ) (xs ys : List (List ℕ)) → Among y (xs ++ ys) → Among y xs ⊎ Among y ys
among_parts y xs ys h = or_cases (is_among y xs) (is_among y ys) (rw (list_any-append (bytes_eq y) xs ys) at h)

pub among_left : (y : List ℕ) (xs ys : List (List ℕ)) → Among y xs → Among y (xs ++ ys)
among_left y xs ys h = rw (list_any-append (bytes_eq y) xs ys) (or_left (is_among y xs) (is_among y ys) h)

pub among_right : (y : List ℕ) (xs ys : List (List ℕ)) → Among y ys → Among y (xs ++ ys)
among_right y xs ys h = rw (list_any-append (bytes_eq y) xs ys) (or_right (is_among y xs) (is_among y ys) h)

pub missing_parts : (y : List ℕ) (xs ys : List (List ℕ)) → Missing y (xs ++ ys) → Missing y xs × Missing y ys
missing_parts y xs ys h = or_parts (is_among y xs) (is_among y ys) (rw (list_any-append (bytes_eq y) xs ys) at h)

pub missing_both : (y : List ℕ) (xs ys : List (List ℕ)) → Missing y xs → Missing y ys → Missing y (xs ++ ys)
missing_both y xs ys h k = rw (list_any-append (bytes_eq y) xs ys) (or_from (is_among y xs) (is_among y ys) h k)

pub there_are_fields : (y : List ℕ) (fields : List (List ℕ)) → Among y fields → has_fields fields ≡ true
there_are_fields y [] h = cc h
there_are_fields y (x ∷ xs) h = refl

-- ---- functions

-- P holds of it as a scope round a function that binds these names sees it, if one does
abbrev pub Leaving : (Use → Type 0) → List (List ℕ) → Use → Type 0
Leaving P bound u = Missing u.name bound → P (crossing u)

pub leaving_from : (P : Use → Type 0) (bound : List (List ℕ)) (us : List Use) → Each (Leaving P bound) us → Each P (leaving_function bound us)
leaving_from P bound [] h = tt
leaving_from P bound (u ∷ us) h = by (is_among u.name bound) h.0 (leaving_from P bound us h.1)
  where
    by : (b : Bool) → (b ≡ false → P (crossing u)) → Each P (leaving_function bound us) → Each P (if b then leaving_function bound us else (crossing u ∷ leaving_function bound us))
    by true one more = more
    by false one more = (one refl, more)

pub leaving_to : (P : Use → Type 0) (bound : List (List ℕ)) (us : List Use) → Each P (leaving_function bound us) → Each (Leaving P bound) us
leaving_to P bound [] h = tt
leaving_to P bound (u ∷ us) h = by (is_among u.name bound) (leaving_to P bound us) h
  where
    by : (b : Bool) → (Each P (leaving_function bound us) → Each (Leaving P bound) us) → Each P (if b then leaving_function bound us else (crossing u ∷ leaving_function bound us))
        → (b ≡ false → P (crossing u)) × Each (Leaving P bound) us
    by true more k = ((λ e. absurd (cc e)), more k)
    by false more k = ((λ e. k.0), more k.1)

-- what must hold of the names that a function binds, before and after it is opened
pub record Binds (fields names before after : List (List ℕ)) (n : ℕ) : Type 0 where
  pub outer : (y : List ℕ) → Missing y names → Missing y before
  pub plain : (y : List ℕ) → Among y names → Missing y fields → Among y after
  pub object : has_fields fields ≡ true → Among (scope_name n) after

pub use_leaves : (P : Use → Type 0) (f : List ℕ → Option ℕ) (n : ℕ) (fields names before after : List (List ℕ)) → Binds fields names before after n → (u : Use)
    → Leaving (Through P f) before u → Leaving P after (opened_use (field_inside fields names n f) u)
use_leaves P f n fields names before after binds u h = by (is_among u.name fields) refl (is_among u.name names) refl
  where
    by : (b : Bool) → is_among u.name fields ≡ b → (c : Bool) → is_among u.name names ≡ c
        → Leaving P after (opened_as (if b then Some n else (if c then None else f u.name)) u)
    by true is c there = λ e. absurd (both_ways (is_among (scope_name n) after) e (binds.object (there_are_fields u.name fields is)))
    by false is true there = λ e. absurd (both_ways (is_among u.name after) e (binds.plain u.name there is))
    by false is false there = λ e. subst P (crossing_same (f u.name) u) (h (binds.outer u.name there))

-- P holds of the use that the assignment of a declared function is
abbrev pub Declaring : (Use → Type 0) → (List ℕ → Option ℕ) → (List ℕ → Bool) → List ℕ → Type 0
Declaring P f w y = (w y ≡ true → P (opened_as (f y) (assignment y))) × (w y ≡ false → P (assignment y))

declared_leaves : (P : Use → Type 0) (f : List ℕ → Option ℕ) (n : ℕ) (fields names before after : List (List ℕ)) → Binds fields names before after n
    → (y : List ℕ) → Among y names → Declaring (Leaving P after) (field_inside fields names n f) (λ x. is_among x fields) y
declared_leaves P f n fields names before after binds y there = (
  (λ is. subst (λ b. Leaving P after (opened_as (if b then Some n else (if is_among y names then None else f y)) (assignment y))) (sym is)
      (λ e. absurd (both_ways (is_among (scope_name n) after) e (binds.object (there_are_fields y fields is))))),
  (λ is e. absurd (both_ways (is_among y after) e (binds.plain y there is))),
)

-- ---- the object of a function

pub value_uses : (P : Use → Type 0) (valued fields : List (List ℕ)) → ((y : List ℕ) → Among y valued → P (read y)) → Each P (fields_uses (literal_fields valued fields))
value_uses P valued [] h = tt
value_uses P valued (x ∷ xs) h = by (is_among x valued) refl (value_uses P valued xs h)
  where
    by : (b : Bool) → is_among x valued ≡ b → Each P (fields_uses (literal_fields valued xs))
        → Each P (expr_uses (if b then name x else void_zero) ++ fields_uses (literal_fields valued xs))
    by true there more = (h x there, more)
    by false there more = more

pub object_uses : (P : Use → Type 0) (n : ℕ) (valued fields : List (List ℕ)) (ss : tree.Stmts) → (has_fields fields ≡ true → P (assignment (scope_name n)))
    → ((y : List ℕ) → Among y valued → P (read y)) → Each P (stmts_uses ss) → Each P (stmts_uses (scope_object n valued fields ss))
object_uses P n valued [] ss one values h = h
object_uses P n valued (x ∷ xs) ss one values h =
    (one refl, each_both P _ _ (each_both P _ [] (value_uses P valued (x ∷ xs) values) tt) h)

pub uses_append : (s t : tree.Stmts) → stmts_uses (append s t) ≡ stmts_uses s ++ stmts_uses t
uses_append no_stmts t = refl
uses_append (then_stmt s ss) t = rw (uses_append ss t) (sym (append_assoc (stmt_uses s) (stmts_uses ss) (stmts_uses t)))

-- ---- the body of a function

module _ (f : List ℕ → Option ℕ) (n : ℕ) (fields : List (List ℕ)) (own : Option (List ℕ)) (x : Option (List ℕ)) (formals : List (List ℕ)) (body : tree.Stmts) where
  -- the names of the function, what stands for them inside it, and its fields
  abbrev pub names_inside : List (List ℕ)
  names_inside = maybe_name own ++ bound_names (code x formals body)

  abbrev pub fields_inside : List ℕ → Option ℕ
  fields_inside = field_inside fields names_inside n f

  abbrev pub is_field : List ℕ → Bool
  is_field y = is_among y fields

  abbrev pub declarations_inside : tree.Stmts
  declarations_inside = open_declarations (opening fields_inside is_field) (next_number fields n) body

  abbrev pub statements_inside : tree.Stmts
  statements_inside = open_stmts (opening fields_inside is_field) (next_number fields n) body

  abbrev pub opened_inside : tree.Stmts
  opened_inside = scope_object n (valued_names own (code x formals body)) fields (append declarations_inside statements_inside)

-- the declared names of an opened body
names_of_object : (n : ℕ) (valued fields : List (List ℕ)) (ss : tree.Stmts) → has_fields fields ≡ true → Among (scope_name n) (declared_names (scope_object n valued fields ss))
names_of_object n valued [] ss e = cc e
names_of_object n valued (x ∷ xs) ss e = or_left (bytes_eq (scope_name n) (scope_name n)) (is_among (scope_name n) (declared_names ss)) (same_name (scope_name n))

behind_object : (y : List ℕ) (n : ℕ) (valued fields : List (List ℕ)) (ss : tree.Stmts) → Missing y (declared_names (scope_object n valued fields ss)) → Missing y (declared_names ss)
behind_object y n valued [] ss h = h
behind_object y n valued (x ∷ xs) ss h = (or_parts (bytes_eq y (scope_name n)) (is_among y (declared_names ss)) h).1

pub declared_inside : (f : List ℕ → Option ℕ) (n : ℕ) (fields : List (List ℕ)) (own x : Option (List ℕ)) (formals : List (List ℕ)) (body : tree.Stmts) → AreStmts true body
    → (y : List ℕ) → Among y (declared_names body) → Missing y fields → Among y (declared_names (opened_inside f n fields own x formals body))
declared_inside f n fields own x formals body is y there free = true_from_ne_false _ (λ gone.
    let ds : tree.Stmts = declarations_inside f n fields own x formals body in
    let ss : tree.Stmts = statements_inside f n fields own x formals body in
    let after : Missing y (declared_names (append ds ss)) = behind_object y n (valued_names own (code x formals body)) fields (append ds ss) gone in
    let parts = append_parts (Fails (bytes_eq y)) ds ss (each_fails (bytes_eq y) (declared_names (append ds ss)) after) in
    let other : (z : List ℕ) → is_among z fields ≡ true → bytes_eq y z ≡ false =
    λ z field. false_from_ne_true _ (λ same.
    let e : y ≡ z = (bytes_eq-Decides y z).0 same in
    both_ways (is_among y fields) free (subst (λ v. Among v fields) (sym e) field)) in
    let before = top_kept (Fails (bytes_eq y)) (λ z. is_among z fields) other (fields_inside f n fields own x formals body) (next_number fields n) (next_number fields n) body is parts.0 parts.1 in
    both_ways (is_among y (declared_names body)) (none_passes (bytes_eq y) (declared_names body) before) there)

module _ (f : List ℕ → Option ℕ) (n : ℕ) (fields : List (List ℕ)) (own x z : Option (List ℕ)) (formals : List (List ℕ)) (body : tree.Stmts) (is : AreStmts true body) where
  -- the names that the opened function binds, where it has the name z
  abbrev pub bound_after : List (List ℕ)
  bound_after = maybe_name z ++ bound_names (code z formals (opened_inside f n fields own x formals body))

  bind : (before : List (List ℕ)) → ((y : List ℕ) → Missing y (names_inside f n fields own x formals body) → Missing y before)
      → ((y : List ℕ) → Among y (maybe_name own) → Among y (maybe_name z)) → Binds fields (names_inside f n fields own x formals body) before bound_after n
  bind before outer same =
      let after : List (List ℕ) = declared_names (opened_inside f n fields own x formals body) in
      let behind : (y : List ℕ) → Among y (formals ++ after) → Among y bound_after = λ y there. among_right y (maybe_name z) (formals ++ after) there in
      let declared : (y : List ℕ) → Missing y fields → Among y (declared_names body) → Among y bound_after =
      λ y free there. behind y (among_right y formals after (declared_inside f n fields own x formals body is y there free)) in
      let bound : (y : List ℕ) → Missing y fields → Among y (formals ++ declared_names body) → Among y bound_after =
      λ y free there. elim (among_parts y formals (declared_names body) there) [ inl here ↦ behind y (among_left y formals after here) | inr here ↦ declared y free here ] in
      record {
        outer = outer;
        plain = λ y there free. elim (among_parts y (maybe_name own) (formals ++ declared_names body) there)
            [ inl here ↦ among_left y (maybe_name z) (formals ++ after) (same y here) | inr here ↦ bound y free here ];
        object = λ e. behind (scope_name n) (among_right (scope_name n) formals after (names_of_object n (valued_names own (code x formals body)) fields _ e));
      }

  value_is_bound : ((y : List ℕ) → Among y (maybe_name own) → Among y (maybe_name z)) → (y : List ℕ) → Among y (valued_names own (code x formals body)) → Among y bound_after
  value_is_bound same y there =
      let after : List (List ℕ) = declared_names (opened_inside f n fields own x formals body) in
      elim (among_parts y formals (maybe_name own) there)
      [ inl here ↦ among_right y (maybe_name z) (formals ++ after) (among_left y formals after here) | inr here ↦ among_left y (maybe_name z) (formals ++ after) (same y here) ]

  -- from what holds of the uses that a function leaves, what holds of those that it leaves when it is opened
  pub function_step : (P : Use → Type 0) (before : List (List ℕ)) → ((y : List ℕ) → Missing y (names_inside f n fields own x formals body) → Missing y before)
      → ((y : List ℕ) → Among y (maybe_name own) → Among y (maybe_name z))
      → (Each (Declaring (Leaving P bound_after) (fields_inside f n fields own x formals body) (λ y. is_among y fields)) (declared_names body)
      → Each (Through (Leaving P bound_after) (fields_inside f n fields own x formals body)) (stmts_uses body)
      → Each (Leaving P bound_after) (stmts_uses (declarations_inside f n fields own x formals body)))
      → (Each (Through (Leaving P bound_after) (fields_inside f n fields own x formals body)) (stmts_uses body)
      → Each (Leaving P bound_after) (stmts_uses (statements_inside f n fields own x formals body)))
      → Each (Through P f) (leaving_function before (stmts_uses body))
      → Each P (leaving_function bound_after (stmts_uses (opened_inside f n fields own x formals body)))
  function_step P before outer same declarations statements h =
      let names : List (List ℕ) = names_inside f n fields own x formals body in
      let inner : List ℕ → Option ℕ = fields_inside f n fields own x formals body in
      let Q : Use → Type 0 = Leaving P bound_after in
      let binds : Binds fields names before bound_after n = bind before outer same in
      let uses : Each (Through Q inner) (stmts_uses body) =
      each_so (Leaving (Through P f) before) (Through Q inner) (λ u. use_leaves P f n fields names before bound_after binds u) (stmts_uses body)
      (leaving_to (Through P f) before (stmts_uses body) h) in
      let declared : Each (Declaring Q inner (λ y. is_among y fields)) (declared_names body) =
      each_among (Declaring Q inner (λ y. is_among y fields)) (declared_names body) (λ y there.
      declared_leaves P f n fields names before bound_after binds y
      (among_right y (maybe_name own) (formals ++ declared_names body) (among_right y formals (declared_names body) there))) in
      let ds : tree.Stmts = declarations_inside f n fields own x formals body in
      let ss : tree.Stmts = statements_inside f n fields own x formals body in
      leaving_from P bound_after (stmts_uses (opened_inside f n fields own x formals body))
      (object_uses Q n (valued_names own (code x formals body)) fields (append ds ss)
      (λ e away. absurd (both_ways (is_among (scope_name n) bound_after) away (binds.object e)))
      (λ y there away. absurd (both_ways (is_among y bound_after) away (value_is_bound same y there)))
      (rw (uses_append ds ss) (each_both Q (stmts_uses ds) (stmts_uses ss) (declarations declared uses) (statements uses))))

-- ---- the own name of a function expression

pub own_is_name : (x : Option (List ℕ)) (formals : List (List ℕ)) (body : tree.Stmts) (y : List ℕ) → Among y (maybe_name (own_name (code x formals body))) → Among y (maybe_name x)
own_is_name None formals body y there = there
own_is_name (Some z) formals body y there = by (is_among z (bound_names (code (Some z) formals body))) there
  where
    by : (b : Bool) → Among y (maybe_name (if b then None else Some z)) → Among y (maybe_name (Some z))
    by true k = cc k
    by false k = k

pub name_is_own : (x : Option (List ℕ)) (formals : List (List ℕ)) (body : tree.Stmts) (y : List ℕ)
    → Missing y (maybe_name (own_name (code x formals body)) ++ bound_names (code x formals body)) → Missing y (maybe_name x ++ bound_names (code x formals body))
name_is_own None formals body y h = h
name_is_own (Some z) formals body y h = by (is_among z bound) refl h
  where
    bound : List (List ℕ)
    bound = bound_names (code (Some z) formals body)

    by : (b : Bool) → is_among z (bound_names (code (Some z) formals body)) ≡ b
        → Missing y (maybe_name (if b then None else Some z) ++ bound_names (code (Some z) formals body)) → Missing y (z ∷ bound_names (code (Some z) formals body))
    by true there k = or_from (bytes_eq y z) (is_among y (bound_names (code (Some z) formals body)))
        (false_from_ne_true (bytes_eq y z) (λ e. both_ways (is_among z (bound_names (code (Some z) formals body)))
        (subst (λ v. Missing v (bound_names (code (Some z) formals body))) ((bytes_eq-Decides y z).0 e) k) there)) k
    by false there k = k

-- ---- catch clauses

-- P holds of it, if a scope round a catch clause with this parameter sees it
abbrev pub Staying : (Use → Type 0) → List ℕ → Use → Type 0
Staying P x u = bytes_eq u.name x ≡ false → P u

pub staying_from : (P : Use → Type 0) (x : List ℕ) (us : List Use) → Each (Staying P x) us → Each P (leaving_clause x us)
staying_from P x [] h = tt
staying_from P x (u ∷ us) h = by (bytes_eq u.name x) h.0 (staying_from P x us h.1)
  where
    by : (b : Bool) → (b ≡ false → P u) → Each P (leaving_clause x us) → Each P (if b then leaving_clause x us else (u ∷ leaving_clause x us))
    by true one more = more
    by false one more = (one refl, more)

pub staying_to : (P : Use → Type 0) (x : List ℕ) (us : List Use) → Each P (leaving_clause x us) → Each (Staying P x) us
staying_to P x [] h = tt
staying_to P x (u ∷ us) h = by (bytes_eq u.name x) (staying_to P x us) h
  where
    by : (b : Bool) → (Each P (leaving_clause x us) → Each (Staying P x) us) → Each P (if b then leaving_clause x us else (u ∷ leaving_clause x us))
        → (b ≡ false → P u) × Each (Staying P x) us
    by true more k = ((λ e. absurd (cc e)), more k)
    by false more k = ((λ e. k.0), more k.1)

-- the parameter, where it is captured
abbrev pub if_captured : Bool → List ℕ → List (List ℕ)
if_captured b x = if b then (x ∷ []) else []

use_stays : (P : Use → Type 0) (f : List ℕ → Option ℕ) (n : ℕ) (x : List ℕ) (b : Bool) (u : Use) → Staying (Through P f) x u
    → Staying P (parameter n (if_captured b x) x) (opened_use (field_inside (if_captured b x) (x ∷ []) n f) u)
use_stays P f n x true u h = by (bytes_eq u.name x) h
  where
    by : (c : Bool) → (c ≡ false → P (opened_use f u))
        → Staying P (scope_name n) (opened_as (if c || false then Some n else (if c || false then None else f u.name)) u)
    by true k = λ e. absurd (both_ways (bytes_eq (scope_name n) (scope_name n)) e (same_name (scope_name n)))
    by false k = λ e. k refl
use_stays P f n x false u h = by (bytes_eq u.name x) refl h
  where
    by : (c : Bool) → bytes_eq u.name x ≡ c → (c ≡ false → P (opened_use f u)) → Staying P x (opened_as (if c || false then None else f u.name) u)
    by true is k = λ e. absurd (both_ways (bytes_eq u.name x) e is)
    by false is k = λ e. k refl

box_uses : (Q : Use → Type 0) (n : ℕ) (fields : List (List ℕ)) (ss : tree.Stmts) → (has_fields fields ≡ true → Q (assignment (scope_name n)) × Q (read (scope_name n)))
    → Each Q (stmts_uses ss) → Each Q (stmts_uses (clause_object n fields ss))
box_uses Q n [] ss box h = h
box_uses Q n (x ∷ xs) ss box h = ((box refl).0, ((box refl).1, h))

-- from what holds of the uses that a catch clause leaves, what holds of those that it leaves when it is opened
pub clause_step : (P : Use → Type 0) (f : List ℕ → Option ℕ) (n : ℕ) (x : List ℕ) (b : Bool) (us : List Use) (ss : tree.Stmts)
    → (Each (Through (Staying P (parameter n (if_captured b x) x)) (field_inside (if_captured b x) (x ∷ []) n f)) us
    → Each (Staying P (parameter n (if_captured b x) x)) (stmts_uses ss))
    → Each (Through P f) (leaving_clause x us)
    → Each P (leaving_clause (parameter n (if_captured b x) x) (stmts_uses (clause_object n (if_captured b x) ss)))
clause_step P f n x b us ss inside h =
    staying_from P (parameter n (if_captured b x) x) (stmts_uses (clause_object n (if_captured b x) ss))
    (box_uses (Staying P (parameter n (if_captured b x) x)) n (if_captured b x) ss (bound b)
    (inside (each_so (Staying (Through P f) x) (Through (Staying P (parameter n (if_captured b x) x)) (field_inside (if_captured b x) (x ∷ []) n f))
    (use_stays P f n x b) us (staying_to (Through P f) x us h))))
  where
    away : (e : bytes_eq (scope_name n) (scope_name n) ≡ false) → ⊥
    away e = both_ways (bytes_eq (scope_name n) (scope_name n)) e (same_name (scope_name n))

    bound : (c : Bool) → has_fields (if_captured c x) ≡ true
        → Staying P (parameter n (if_captured c x) x) (assignment (scope_name n)) × Staying P (parameter n (if_captured c x) x) (read (scope_name n))
    bound true e = ((λ k. absurd (away k)), (λ k. absurd (away k)))
    bound false e = cc e
