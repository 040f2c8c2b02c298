-- The needed variables of a function: each once, all reserved, and each reserved name that the function leaves to the scopes round it.
use Rattle.std.proofs.Common.{◌≡◌, refl, sym, ap, ◌∙◌, ℕ, Bool, true, false, ◌||◌, ◌==◌, List, [], ◌∷◌, ◌++◌, bytes_eq, cond, filter, if◌then◌else◌, map}
use Rattle.std.specs.List.{list_all, list_any}
use Rattle.std.proofs.lemmas.Bool.{and_from, and_parts, eqb-true, or_from, or_left, or_parts, or_right}
use Rattle.std.proofs.lemmas.List.{append-nil}
use Rattle.std.proofs.lemmas.List.Folds.{list_all-append, list_any-append}
use Rattle.std.proofs.lemmas.Slice.Eq.{bytes_eq-Decides}
use Rattle.indexmap.specs.IndexSet.{insert_all, insert_key}
use Rattle.js_core.specs.Tree as tree
use Rattle.js_core.specs.Tree.{func}
use Rattle.script_rules.specs.Form.{any_use_is_reserved}
use Rattle.scope_analysis.specs.Needs.{needed_variables}
use Rattle.scope_analysis.specs.Identifiers.{is_reserved, is_restricted}
use Rattle.scope_analysis.specs.Names.{has_repeat, is_among}
use Rattle.scope_analysis.specs.Uses.{Use, crossing, expr_uses, leaving_function}
use Rattle.agreement.proofs.Callers.{same_name}

abbrev names : List Use → List (List ℕ)
names us = map (λ (u : Use). u.name) us

-- ---- one name more

turned : (x y : List ℕ) → bytes_eq x y ≡ false → bytes_eq y x ≡ false
turned x y e = by (bytes_eq y x) refl
  where
    by : (b : Bool) → bytes_eq y x ≡ b → bytes_eq y x ≡ false
    by true is = let same : y ≡ x = (bytes_eq-Decides y x).0 is in cc (e, ap (bytes_eq x) same, same_name x)
    by false is = is

module _ (ks : List (List ℕ)) (x : List ℕ) where
  stays : (y : List ℕ) → is_among y ks ≡ true → is_among y (insert_key bytes_eq ks x) ≡ true
  stays y h = by (list_any (bytes_eq x) ks)
    where
      by : (b : Bool) → is_among y (if b then ks else (ks ++ x ∷ [])) ≡ true
      by true = h
      by false = list_any-append (bytes_eq y) ks (x ∷ []) ∙ or_left (is_among y ks) (is_among y (x ∷ [])) h

  joins : (y : List ℕ) → bytes_eq y x ≡ true → is_among y (insert_key bytes_eq ks x) ≡ true
  joins y same = by (list_any (bytes_eq x) ks) refl
    where
      by : (b : Bool) → list_any (bytes_eq x) ks ≡ b → is_among y (if b then ks else (ks ++ x ∷ [])) ≡ true
      by true there = ap (λ z. is_among z ks) ((bytes_eq-Decides y x).0 same) ∙ there
      by false new = list_any-append (bytes_eq y) ks (x ∷ []) ∙ or_right (is_among y ks) (is_among y (x ∷ [])) (or_left (bytes_eq y x) false same)

  all_stay : (p : List ℕ → Bool) → list_all p ks ≡ true → p x ≡ true → list_all p (insert_key bytes_eq ks x) ≡ true
  all_stay p all one = by (list_any (bytes_eq x) ks)
    where
      by : (b : Bool) → list_all p (if b then ks else (ks ++ x ∷ [])) ≡ true
      by true = all
      by false = list_all-append p ks (x ∷ []) ∙ and_from (list_all p ks) (list_all p (x ∷ [])) all (and_from (p x) true one refl)

last_apart : (ks : List (List ℕ)) (x : List ℕ) → has_repeat ks ≡ false → is_among x ks ≡ false → has_repeat (ks ++ x ∷ []) ≡ false
last_apart [] x apart new = refl
last_apart (k ∷ ks) x apart new =
    let one = or_parts (is_among k ks) (has_repeat ks) apart in
    let other = or_parts (bytes_eq x k) (is_among x ks) new in
    or_from (is_among k (ks ++ x ∷ [])) (has_repeat (ks ++ x ∷ []))
    (list_any-append (bytes_eq k) ks (x ∷ []) ∙ or_from (is_among k ks) (is_among k (x ∷ [])) one.0 (or_from (bytes_eq k x) false (turned x k other.0) refl))
    (last_apart ks x one.1 other.1)

stay_apart : (ks : List (List ℕ)) (x : List ℕ) → has_repeat ks ≡ false → has_repeat (insert_key bytes_eq ks x) ≡ false
stay_apart ks x apart = by (list_any (bytes_eq x) ks) refl
  where
    by : (b : Bool) → list_any (bytes_eq x) ks ≡ b → has_repeat (if b then ks else (ks ++ x ∷ [])) ≡ false
    by true there = apart
    by false new = last_apart ks x apart new

-- ---- names once each

stay_among : (ks xs : List (List ℕ)) (y : List ℕ) → is_among y ks ≡ true → is_among y (insert_all bytes_eq ks xs) ≡ true
stay_among ks [] y h = h
stay_among ks (x ∷ xs) y h = stay_among (insert_key bytes_eq ks x) xs y (stays ks x y h)

all_among : (ks xs : List (List ℕ)) (y : List ℕ) → is_among y xs ≡ true → is_among y (insert_all bytes_eq ks xs) ≡ true
all_among ks [] y h = cc h
all_among ks (x ∷ xs) y h = by (bytes_eq y x) refl h (all_among (insert_key bytes_eq ks x) xs y)
  where
    by : (b : Bool) → bytes_eq y x ≡ b → (b || is_among y xs) ≡ true
        → (is_among y xs ≡ true → is_among y (insert_all bytes_eq (insert_key bytes_eq ks x) xs) ≡ true)
        → is_among y (insert_all bytes_eq (insert_key bytes_eq ks x) xs) ≡ true
    by true same k later = stay_among (insert_key bytes_eq ks x) xs y (joins ks x y same)
    by false other k later = later k

pub all_pass : (p : List ℕ → Bool) (ks xs : List (List ℕ)) → list_all p ks ≡ true → list_all p xs ≡ true → list_all p (insert_all bytes_eq ks xs) ≡ true
all_pass p ks [] h e = h
all_pass p ks (x ∷ xs) h e =
    let parts = and_parts (p x) (list_all p xs) e in
    all_pass p (insert_key bytes_eq ks x) xs (all_stay ks x p h parts.0) parts.1

all_apart : (ks xs : List (List ℕ)) → has_repeat ks ≡ false → has_repeat (insert_all bytes_eq ks xs) ≡ false
all_apart ks [] h = h
all_apart ks (x ∷ xs) h = all_apart (insert_key bytes_eq ks x) xs (stay_apart ks x h)

-- ---- those that are reserved

reserved_pass : (xs : List (List ℕ)) → list_all is_reserved (filter is_reserved xs) ≡ true
reserved_pass [] = refl
reserved_pass (x ∷ xs) = by (is_reserved x) refl (reserved_pass xs)
  where
    by : (b : Bool) → is_reserved x ≡ b → list_all is_reserved (filter is_reserved xs) ≡ true
        → list_all is_reserved (cond b (x ∷ filter is_reserved xs) (filter is_reserved xs)) ≡ true
    by true is h = and_from (is_reserved x) (list_all is_reserved (filter is_reserved xs)) is h
    by false is h = h

reserved_among : (xs : List (List ℕ)) (y : List ℕ) → is_reserved y ≡ true → is_among y xs ≡ true → is_among y (filter is_reserved xs) ≡ true
reserved_among [] y reserved h = h
reserved_among (x ∷ xs) y reserved h = by (is_reserved x) refl (bytes_eq y x) refl h (reserved_among xs y reserved)
  where
    by : (a : Bool) → is_reserved x ≡ a → (b : Bool) → bytes_eq y x ≡ b → (b || is_among y xs) ≡ true
        → (is_among y xs ≡ true → is_among y (filter is_reserved xs) ≡ true)
        → is_among y (cond a (x ∷ filter is_reserved xs) (filter is_reserved xs)) ≡ true
    by true is true same k later = or_left (bytes_eq y x) (is_among y (filter is_reserved xs)) same
    by true is false other k later = or_right (bytes_eq y x) (is_among y (filter is_reserved xs)) (later k)
    by false is true same k later = cc (is, ap is_reserved (sym ((bytes_eq-Decides y x).0 same)), reserved)
    by false is false other k later = later k

-- a reserved name is neither `eval` nor `arguments`
reserved_unrestricted : (x : List ℕ) → is_reserved x ≡ true → is_restricted x ≡ false
reserved_unrestricted [] e = cc e
reserved_unrestricted (a ∷ []) e = cc e
reserved_unrestricted (a ∷ b ∷ x) e =
    let dollar : a ≡ 36 = eqb-true a 36 (and_parts (a == 36) (b == 36) e).0 in
    ap (λ n. is_restricted (n ∷ b ∷ x)) dollar

none_restricted : (xs : List (List ℕ)) → list_all is_reserved xs ≡ true → list_any is_restricted xs ≡ false
none_restricted [] h = refl
none_restricted (x ∷ xs) h =
    let parts = and_parts (is_reserved x) (list_all is_reserved xs) h in
    or_from (is_restricted x) (list_any is_restricted xs) (reserved_unrestricted x parts.0) (none_restricted xs parts.1)

-- ---- the needed variables

pub needed_are_reserved : (c : tree.Code) → list_all is_reserved (needed_variables c) ≡ true
needed_are_reserved c = all_pass is_reserved [] (filter is_reserved (names (expr_uses (func c)))) refl (reserved_pass (names (expr_uses (func c))))

pub needed_are_apart : (c : tree.Code) → has_repeat (needed_variables c) ≡ false
needed_are_apart c = all_apart [] (filter is_reserved (names (expr_uses (func c)))) refl

pub needed_are_unrestricted : (c : tree.Code) → list_any is_restricted (needed_variables c) ≡ false
needed_are_unrestricted c = none_restricted (needed_variables c) (needed_are_reserved c)

none_left : (xs : List (List ℕ)) (us : List Use) → ((y : List ℕ) → is_reserved y ≡ true → is_among y (names us) ≡ true → is_among y xs ≡ true)
    → any_use_is_reserved (leaving_function xs us) ≡ false
none_left xs [] bound = refl
none_left xs (u ∷ us) bound = by (is_among u.name xs) refl (is_reserved u.name) refl (none_left xs us (λ y r h. bound y r (or_right (bytes_eq y u.name) (is_among y (names us)) h)))
  where
    by : (a : Bool) → is_among u.name xs ≡ a → (b : Bool) → is_reserved u.name ≡ b → any_use_is_reserved (leaving_function xs us) ≡ false
        → any_use_is_reserved (if a then leaving_function xs us else (crossing u ∷ leaving_function xs us)) ≡ false
    by true among b reserved later = later
    by false other true reserved later = cc (other, bound u.name reserved (or_left (bytes_eq u.name u.name) (is_among u.name (names us)) (same_name u.name)))
    by false other false reserved later = or_from (is_reserved u.name) (any_use_is_reserved (leaving_function xs us)) reserved later

-- what a function that binds them and returns this one leaves
pub needed_are_all : (c : tree.Code)
    → any_use_is_reserved ((leaving_function (needed_variables c ++ []) (expr_uses (func c) ++ []) ++ []) ++ []) ≡ false
needed_are_all c =
    let us : List Use = expr_uses (func c) in
    let xs : List (List ℕ) = needed_variables c in
    let left : List Use = leaving_function (xs ++ []) (us ++ []) in
    let same : (left ++ []) ++ [] ≡ leaving_function xs us =
    append-nil (left ++ []) ∙ (append-nil left ∙ (ap (λ ys. leaving_function ys (us ++ [])) (append-nil xs) ∙ ap (leaving_function xs) (append-nil us)))
    in
    ap any_use_is_reserved same
    ∙ none_left xs us (λ y reserved h. all_among [] (filter is_reserved (names us)) y (reserved_among (names us) y reserved h))
