-- The fields of a scope are names of it, each once, and those that functions inside use.
use Rattle.std.proofs.Common.{◌≡◌, refl, sym, subst, ℕ, Bool, true, false, ◌||◌, List, [], ◌∷◌, ◌++◌, ◌⊎◌, inl, inr, Option, bytes_eq, cond, filter, if◌then◌else◌}
use Rattle.std.proofs.lemmas.Bool.{both_ways, false_from_ne_true, or_from, or_left, or_parts, or_right}
use Rattle.std.proofs.lemmas.Slice.Eq.{bytes_eq-Decides}
use Rattle.indexmap.specs.IndexSet.{insert_all, insert_key}
use Rattle.js_core.specs.Tree as tree
use Rattle.js_core.specs.Tree.{code}
use Rattle.scope_analysis.specs.Names.{declared_names, has_repeat, is_among, maybe_name}
use Rattle.scope_analysis.specs.Scopes.{once_each, scope_names}
use Rattle.scope_analysis.specs.Uses.{is_captured, stmts_uses}
use Rattle.instrumenter.specs.Fields.{fields_in}
use Rattle.instrumenter.proofs.Each.{Among, Each, Missing, each_both, same_name}
use Rattle.instrumenter.proofs.Leaving.{among_left, among_parts, among_right, missing_both}

-- ---- each name once

inserted : (y x : List ℕ) (ks : List (List ℕ)) → Among y ks ⊎ (bytes_eq y x ≡ true) → Among y (insert_key bytes_eq ks x)
inserted y x ks h = by (is_among x ks) refl h
  where
    by : (b : Bool) → is_among x ks ≡ b → Among y ks ⊎ (bytes_eq y x ≡ true) → Among y (if b then ks else (ks ++ x ∷ []))
    by true is (inl there) = there
    by true is (inr same) = subst (λ z. Among z ks) (sym ((bytes_eq-Decides y x).0 same)) is
    by false is (inl there) = among_left y ks (x ∷ []) there
    by false is (inr same) = among_right y ks (x ∷ []) (or_left (bytes_eq y x) false same)

inserted_all : (y : List ℕ) (ks xs : List (List ℕ)) → Among y ks ⊎ Among y xs → Among y (insert_all bytes_eq ks xs)
inserted_all y ks [] (inl there) = there
inserted_all y ks [] (inr none) = cc none
inserted_all y ks (x ∷ xs) (inl there) = inserted_all y (insert_key bytes_eq ks x) xs (inl (inserted y x ks (inl there)))
inserted_all y ks (x ∷ xs) (inr there) = by (bytes_eq y x) refl there (inserted_all y (insert_key bytes_eq ks x) xs)
  where
    by : (b : Bool) → bytes_eq y x ≡ b → (b || is_among y xs) ≡ true
        → (Among y (insert_key bytes_eq ks x) ⊎ Among y xs → Among y (insert_all bytes_eq (insert_key bytes_eq ks x) xs))
        → Among y (insert_all bytes_eq (insert_key bytes_eq ks x) xs)
    by true same e later = later (inl (inserted y x ks (inr same)))
    by false other e later = later (inr e)

pub once_among : (y : List ℕ) (xs : List (List ℕ)) → Among y xs → Among y (once_each xs)
once_among y xs there = inserted_all y [] xs (inr there)

module _ (P : List ℕ → Type 0) where
  each_inserted : (ks : List (List ℕ)) (x : List ℕ) → Each P ks → P x → Each P (insert_key bytes_eq ks x)
  each_inserted ks x h k = by (is_among x ks)
    where
      by : (b : Bool) → Each P (if b then ks else (ks ++ x ∷ []))
      by true = h
      by false = each_both P ks (x ∷ []) h (k, tt)

  each_inserted_all : (ks xs : List (List ℕ)) → Each P ks → Each P xs → Each P (insert_all bytes_eq ks xs)
  each_inserted_all ks [] h k = h
  each_inserted_all ks (x ∷ xs) h k = each_inserted_all (insert_key bytes_eq ks x) xs (each_inserted ks x h k.0) k.1

  pub each_filtered : (p : List ℕ → Bool) (xs : List (List ℕ)) → Each P xs → Each P (filter p xs)
  each_filtered p [] h = tt
  each_filtered p (x ∷ xs) h = by (p x) (each_filtered p xs h.1)
    where
      by : (b : Bool) → Each P (filter p xs) → Each P (cond b (x ∷ filter p xs) (filter p xs))
      by true more = (h.0, more)
      by false more = more

  pub each_field : (own : Option (List ℕ)) (x : Option (List ℕ)) (formals : List (List ℕ)) (body : tree.Stmts)
      → Each P (maybe_name own) → Each P formals → Each P (declared_names body) → Each P (fields_in own (code x formals body))
  each_field own x formals body h k r =
      each_filtered (λ y. is_captured y (stmts_uses body)) (scope_names own formals (declared_names body))
      (each_inserted_all [] (formals ++ (maybe_name own ++ declared_names body)) tt
      (each_both P formals (maybe_name own ++ declared_names body) k (each_both P (maybe_name own) (declared_names body) h r)))

-- ---- no name twice

missing_there : (x y : List ℕ) (ks : List (List ℕ)) → is_among x (ks ++ y ∷ []) ≡ false → bytes_eq x y ≡ false
missing_there x y [] e = (or_parts (bytes_eq x y) false e).0
missing_there x y (k ∷ ks) e = missing_there x y ks (or_parts (bytes_eq x k) _ e).1

other_way : (x y : List ℕ) → bytes_eq x y ≡ false → bytes_eq y x ≡ false
other_way x y e = false_from_ne_true (bytes_eq y x) (λ same. both_ways (bytes_eq x x) (subst (λ z. bytes_eq x z ≡ false) ((bytes_eq-Decides y x).0 same) e) (same_name x))

one_more : (ks : List (List ℕ)) (x : List ℕ) → has_repeat ks ≡ false → Missing x ks → has_repeat (ks ++ x ∷ []) ≡ false
one_more [] x apart free = refl
one_more (k ∷ ks) x apart free =
    let here = or_parts (bytes_eq x k) (is_among x ks) free in
    let parts = or_parts (is_among k ks) (has_repeat ks) apart in
    or_from _ _ (missing_both k ks (x ∷ []) parts.0 (or_from (bytes_eq k x) false (other_way x k here.0) refl)) (one_more ks x parts.1 here.1)

apart_inserted : (ks : List (List ℕ)) (x : List ℕ) → has_repeat ks ≡ false → has_repeat (insert_key bytes_eq ks x) ≡ false
apart_inserted ks x apart = by (is_among x ks) refl
  where
    by : (b : Bool) → is_among x ks ≡ b → has_repeat (if b then ks else (ks ++ x ∷ [])) ≡ false
    by true is = apart
    by false is = one_more ks x apart is

apart_inserted_all : (ks xs : List (List ℕ)) → has_repeat ks ≡ false → has_repeat (insert_all bytes_eq ks xs) ≡ false
apart_inserted_all ks [] apart = apart
apart_inserted_all ks (x ∷ xs) apart = apart_inserted_all (insert_key bytes_eq ks x) xs (apart_inserted ks x apart)

missing_filtered : (p : List ℕ → Bool) (y : List ℕ) (xs : List (List ℕ)) → Missing y xs → Missing y (filter p xs)
missing_filtered p y [] h = refl
missing_filtered p y (x ∷ xs) h = by (p x) (missing_filtered p y xs (or_parts (bytes_eq y x) (is_among y xs) h).1)
  where
    by : (b : Bool) → Missing y (filter p xs) → Missing y (cond b (x ∷ filter p xs) (filter p xs))
    by true more = or_from (bytes_eq y x) (is_among y (filter p xs)) (or_parts (bytes_eq y x) (is_among y xs) h).0 more
    by false more = more

apart_filtered : (p : List ℕ → Bool) (xs : List (List ℕ)) → has_repeat xs ≡ false → has_repeat (filter p xs) ≡ false
apart_filtered p [] h = refl
apart_filtered p (x ∷ xs) h = by (p x) (apart_filtered p xs (or_parts (is_among x xs) (has_repeat xs) h).1)
  where
    by : (b : Bool) → has_repeat (filter p xs) ≡ false → has_repeat (cond b (x ∷ filter p xs) (filter p xs)) ≡ false
    by true more = or_from (is_among x (filter p xs)) (has_repeat (filter p xs)) (missing_filtered p x xs (or_parts (is_among x xs) (has_repeat xs) h).0) more
    by false more = more

pub fields_apart : (own : Option (List ℕ)) (x : Option (List ℕ)) (formals : List (List ℕ)) (body : tree.Stmts) → has_repeat (fields_in own (code x formals body)) ≡ false
fields_apart own x formals body =
    apart_filtered (λ y. is_captured y (stmts_uses body)) (scope_names own formals (declared_names body))
    (apart_inserted_all [] (formals ++ (maybe_name own ++ declared_names body)) refl)

-- ---- captured names are fields

filtered_among : (p : List ℕ → Bool) (y : List ℕ) (xs : List (List ℕ)) → p y ≡ true → Among y xs → Among y (filter p xs)
filtered_among p y [] h there = cc there
filtered_among p y (x ∷ xs) h there = by (p x) refl (bytes_eq y x) refl (filtered_among p y xs h) there
  where
    by : (b : Bool) → p x ≡ b → (c : Bool) → bytes_eq y x ≡ c → (Among y xs → Among y (filter p xs)) → (c || is_among y xs) ≡ true → Among y (cond b (x ∷ filter p xs) (filter p xs))
    by true is true same more e = or_left (bytes_eq y x) (is_among y (filter p xs)) same
    by true is false same more e = or_right (bytes_eq y x) (is_among y (filter p xs)) (more e)
    by false is true same more e = absurd (both_ways (p x) is (subst (λ z. p z ≡ true) ((bytes_eq-Decides y x).0 same) h))
    by false is false same more e = more e

pub captured_is_field : (own : Option (List ℕ)) (x : Option (List ℕ)) (formals : List (List ℕ)) (body : tree.Stmts) (y : List ℕ)
    → is_captured y (stmts_uses body) ≡ true → Among y (maybe_name own ++ (formals ++ declared_names body)) → Among y (fields_in own (code x formals body))
captured_is_field own x formals body y captured there =
    filtered_among (λ z. is_captured z (stmts_uses body)) y (scope_names own formals (declared_names body)) captured
    (once_among y (formals ++ (maybe_name own ++ declared_names body)) moved)
  where
    behind : Among y (formals ++ declared_names body) → Among y (formals ++ (maybe_name own ++ declared_names body))
    behind h = elim (among_parts y formals (declared_names body) h) [
      | inl here ↦ among_left y formals (maybe_name own ++ declared_names body) here
      | inr here ↦ among_right y formals (maybe_name own ++ declared_names body) (among_right y (maybe_name own) (declared_names body) here)
    ]

    moved : Among y (formals ++ (maybe_name own ++ declared_names body))
    moved = elim (among_parts y (maybe_name own) (formals ++ declared_names body) there)
        [ inl here ↦ among_right y formals (maybe_name own ++ declared_names body) (among_left y (maybe_name own) (declared_names body) here) | inr here ↦ behind here ]
