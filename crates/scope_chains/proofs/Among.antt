-- Names among lists of names, and the names of a scope.
use Rattle.std.proofs.Common.{◌≡◌, refl, sym, ap, ◌∙◌, ℕ, suc, Bool, true, false, ◌||◌, List, [], ◌∷◌, ◌++◌, Option, Some, None, bytes_eq}
use Rattle.std.proofs.lemmas.List.Folds.{list_any-append}
use Rattle.std.proofs.lemmas.Slice.Eq.{bytes_eq-Decides}
use Rattle.std.proofs.Math.Bool.{or-false, or_assoc}
use Rattle.indexmap.specs.IndexSet.{insert_all, insert_key}
use Rattle.js_values.specs.declared.ids.EnvId.{EnvId}
use Rattle.scope_analysis.specs.Names.{is_among}
use Rattle.scope_analysis.specs.Scopes.{once_each, place_among}
use Rattle.scope_chains.specs.Levels.{OwnName, names_at}

pub or_later : (a b c : Bool) → (a || (b || c)) ≡ ((a || c) || b)
or_later true b c = refl
or_later false true true = refl
or_later false true false = refl
or_later false false true = refl
or_later false false false = refl

pub or_between : (a b c : Bool) → (a || (b || c)) ≡ (b || (a || c))
or_between true true c = refl
or_between true false c = refl
or_between false b c = refl

pub among_append : (x : List ℕ) (xs ys : List (List ℕ)) → is_among x (xs ++ ys) ≡ (is_among x xs || is_among x ys)
among_append x xs ys = list_any-append (bytes_eq x) xs ys

-- another name with the same units is the same
pub among_same : (x y : List ℕ) (xs : List (List ℕ)) → bytes_eq x y ≡ true → is_among y xs ≡ is_among x xs
among_same x y xs same = ap (λ z. is_among z xs) (sym ((bytes_eq-Decides x y).0 same))

stays_among : (x v : List ℕ) (ks : List (List ℕ)) → is_among v ks ≡ true → is_among x ks ≡ (is_among x ks || (bytes_eq x v || false))
stays_among x v ks e = by_case (bytes_eq x v) refl
  where
    by_case : (b : Bool) → bytes_eq x v ≡ b → is_among x ks ≡ (is_among x ks || (bytes_eq x v || false))
    by_case true p = rw ((bytes_eq-Decides x v).0 p, e) refl
    by_case false p = rw (p) (sym (or-false (is_among x ks)))

among_inserted : (ks : List (List ℕ)) (v x : List ℕ) → is_among x (insert_key bytes_eq ks v) ≡ (is_among x ks || (bytes_eq x v || false))
among_inserted ks v x = by_case (is_among v ks) refl
  where
    by_case : (b : Bool) → is_among v ks ≡ b → is_among x (insert_key bytes_eq ks v) ≡ (is_among x ks || (bytes_eq x v || false))
    by_case true p = rw (p) (stays_among x v ks p)
    by_case false p = rw (p) (list_any-append (bytes_eq x) ks (v ∷ []))

among_all : (ks xs : List (List ℕ)) (x : List ℕ) → is_among x (insert_all bytes_eq ks xs) ≡ (is_among x ks || is_among x xs)
among_all ks [] x = sym (or-false (is_among x ks))
among_all ks (y ∷ ys) x =
    among_all (insert_key bytes_eq ks y) ys x ∙ rw (among_inserted ks y x, or-false (bytes_eq x y)) (or_assoc (is_among x ks) (bytes_eq x y) (is_among x ys))

-- the names of a list once each
pub among_once : (xs : List (List ℕ)) (x : List ℕ) → is_among x (once_each xs) ≡ is_among x xs
among_once xs x = among_all [] xs x

pub place_none : (x : List ℕ) (ys : List (List ℕ)) → is_among x ys ≡ false → place_among x ys ≡ None
place_none x [] h = refl
place_none x (y ∷ ys) h = by_case (bytes_eq x y) refl (place_none x ys)
  where
    by_case : (b : Bool) → bytes_eq x y ≡ b → (is_among x ys ≡ false → place_among x ys ≡ None) → place_among x (y ∷ ys) ≡ None
    by_case true e r = let contrary : true ≡ false = rw (e) at h in cc
    by_case false e r = let rest : is_among x ys ≡ false = rw (e) at h in rw (e, r rest) refl

pub place_some : (x : List ℕ) (ys : List (List ℕ)) → is_among x ys ≡ true → (k : ℕ) × (place_among x ys ≡ Some k)
place_some x [] h = cc
place_some x (y ∷ ys) h = by_case (bytes_eq x y) refl (place_some x ys)
  where
    by_case : (b : Bool) → bytes_eq x y ≡ b → (is_among x ys ≡ true → (k : ℕ) × (place_among x ys ≡ Some k)) → (k : ℕ) × (place_among x (y ∷ ys) ≡ Some k)
    by_case true e r = (0, rw (e) refl)
    by_case false e r = let rest : is_among x ys ≡ true = rw (e) at h in let p = r rest in (suc p.0, rw (e, p.1) refl)

-- whether the name is a function's own
abbrev pub is_own : List ℕ → Option OwnName → Bool
is_own x None = false
is_own x (Some p) = bytes_eq x p.0

-- the names of a scope are what it binds, and its own name
pub level_names : (x : List ℕ) (own : Option OwnName) (formals declared : List (List ℕ)) (env : EnvId)
    → is_among x (names_at (record { own = own; formals = formals; declared = declared; env = env })) ≡ (is_among x (formals ++ declared) || is_own x own)
level_names x None formals declared env = among_once (formals ++ declared) x ∙ sym (or-false (is_among x (formals ++ declared)))
level_names x (Some p) formals declared env = by_case (is_among p.0 (formals ++ declared)) refl
  where
    hidden : (b : Bool) → bytes_eq x p.0 ≡ b → is_among p.0 (formals ++ declared) ≡ true → is_among x (formals ++ declared) ≡ (is_among x (formals ++ declared) || b)
    hidden true e h = rw (← among_same x p.0 (formals ++ declared) e, h) refl
    hidden false e h = sym (or-false (is_among x (formals ++ declared)))

    seen : is_among x (formals ++ ((p.0 ∷ []) ++ declared)) ≡ (is_among x (formals ++ declared) || bytes_eq x p.0)
    seen = rw (among_append x formals ((p.0 ∷ []) ++ declared), among_append x formals declared) (or_later (is_among x formals) (bytes_eq x p.0) (is_among x declared))

    by_case : (b : Bool) → is_among p.0 (formals ++ declared) ≡ b
        → is_among x (names_at (record { own = Some p; formals = formals; declared = declared; env = env })) ≡ (is_among x (formals ++ declared) || bytes_eq x p.0)
    by_case true h = rw (h) (among_once (formals ++ declared) x ∙ hidden (bytes_eq x p.0) refl h)
    by_case false h = rw (h) (among_once (formals ++ ((p.0 ∷ []) ++ declared)) x ∙ seen)
