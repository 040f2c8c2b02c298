-- What holds of each item of a list.
use Rattle.std.proofs.Common.{◌≡◌, refl, sym, subst, ℕ, Bool, true, false, List, [], ◌∷◌, ◌++◌, bytes_eq}
use Rattle.std.specs.List.{list_all, list_any}
use Rattle.std.proofs.lemmas.Bool.{and_from, or_from, or_left, or_parts, or_right}
use Rattle.std.proofs.lemmas.Slice.Eq.{bytes_eq-Decides}
use Rattle.scope_analysis.specs.Names.{is_among}

abbrev pub Each : {A : Type 0} → (A → Type 0) → List A → Type 0
Each P [] = Unit {0}
Each P (x ∷ xs) = P x × Each P xs

module _ {A : Type 0} (P : A → Type 0) where
  pub each_both : (xs ys : List A) → Each P xs → Each P ys → Each P (xs ++ ys)
  each_both [] ys h k = k
  each_both (x ∷ xs) ys h k = (h.0, each_both xs ys h.1 k)

  pub each_parts : (xs ys : List A) → Each P (xs ++ ys) → Each P xs × Each P ys
  each_parts [] ys h = (tt, h)
  each_parts (x ∷ xs) ys h = let parts = each_parts xs ys h.1 in ((h.0, parts.0), parts.1)

  pub each_always : ((x : A) → P x) → (xs : List A) → Each P xs
  each_always h [] = tt
  each_always h (x ∷ xs) = (h x, each_always h xs)

pub each_so : {A : Type 0} (P Q : A → Type 0) → ((x : A) → P x → Q x) → (xs : List A) → Each P xs → Each Q xs
each_so P Q so [] h = tt
each_so P Q so (x ∷ xs) h = (so x h.0, each_so P Q so xs h.1)

-- ---- tests

abbrev pub Fails : {A : Type 0} → (A → Bool) → A → Type 0
Fails test x = test x ≡ false

module _ {A : Type 0} (test : A → Bool) where
  pub none_passes : (xs : List A) → Each (Fails test) xs → list_any test xs ≡ false
  none_passes [] h = refl
  none_passes (x ∷ xs) h = or_from (test x) (list_any test xs) h.0 (none_passes xs h.1)

  pub each_fails : (xs : List A) → list_any test xs ≡ false → Each (Fails test) xs
  each_fails [] e = tt
  each_fails (x ∷ xs) e = let parts = or_parts (test x) (list_any test xs) e in (parts.0, each_fails xs parts.1)

  pub all_pass : (xs : List A) → Each (λ x. test x ≡ true) xs → list_all test xs ≡ true
  all_pass [] h = refl
  all_pass (x ∷ xs) h = and_from (test x) (list_all test xs) h.0 (all_pass xs h.1)

-- ---- names

abbrev pub Among : List ℕ → List (List ℕ) → Type 0
Among x xs = is_among x xs ≡ true

abbrev pub Missing : List ℕ → List (List ℕ) → Type 0
Missing x xs = is_among x xs ≡ false

pub same_name : (x : List ℕ) → bytes_eq x x ≡ true
same_name x = (bytes_eq-Decides x x).1 refl

pub each_at : (P : List ℕ → Type 0) (xs : List (List ℕ)) (y : List ℕ) → Each P xs → Among y xs → P y
each_at P [] y h there = cc there
each_at P (x ∷ xs) y h there = by (bytes_eq y x) refl (each_at P xs y h.1)
  where
    by : (b : Bool) → bytes_eq y x ≡ b → (Among y xs → P y) → P y
    by true e later = subst P (sym ((bytes_eq-Decides y x).0 e)) h.0
    by false e later = later (rw e at there)

pub each_among : (P : List ℕ → Type 0) (xs : List (List ℕ)) → ((y : List ℕ) → Among y xs → P y) → Each P xs
each_among P [] h = tt
each_among P (x ∷ xs) h =
    (h x (or_left (bytes_eq x x) (is_among x xs) (same_name x)), each_among P xs (λ y there. h y (or_right (bytes_eq y x) (is_among y xs) there)))
