-- Names of a list in which none stands twice, and one more behind them.
use Rattle.std.proofs.Common.{◌≡◌, ℕ, Bool, true, false, not, List, [], ◌∷◌, ◌++◌, refl, bytes_eq}
use Rattle.std.proofs.lemmas.Slice.Eq.{bytes_eq-Decides}
use Rattle.std.proofs.lemmas.List.Folds.{list_any-append}
use Rattle.std.proofs.lemmas.Bool.{or_parts, or_right}
use Rattle.scope_analysis.specs.Names.{is_among, has_repeat}

same_name : (x : List ℕ) → bytes_eq x x ≡ true
same_name x = (bytes_eq-Decides x x).1 refl

other_name : (x k : List ℕ) → bytes_eq x k ≡ false → bytes_eq k x ≡ false
other_name x k e = by_case (bytes_eq k x) refl
  where
    by_case : (b : Bool) → bytes_eq k x ≡ b → bytes_eq k x ≡ false
    by_case true p =
        let found : true ≡ false = rw (← e, (bytes_eq-Decides k x).0 p, same_name x) refl in
        absurd (cc)
    by_case false p = p

stands_there : (x : List ℕ) (ks xs : List (List ℕ)) → is_among x (ks ++ x ∷ xs) ≡ true
stands_there x [] xs = rw (same_name x) refl
stands_there x (k ∷ ks) xs = or_right (bytes_eq x k) (is_among x (ks ++ x ∷ xs)) (stands_there x ks xs)

-- a name that stands there already
pub repeats_once_more : (ks : List (List ℕ)) (x : List ℕ) (xs : List (List ℕ)) → is_among x ks ≡ true → has_repeat (ks ++ x ∷ xs) ≡ true
repeats_once_more [] x xs e = absurd (cc)
repeats_once_more (k ∷ ks) x xs e = by_case (bytes_eq x k) refl (repeats_once_more ks x xs)
  where
    by_case : (b : Bool) → bytes_eq x k ≡ b → (is_among x ks ≡ true → has_repeat (ks ++ x ∷ xs) ≡ true) → has_repeat (k ∷ (ks ++ x ∷ xs)) ≡ true
    by_case true p more = rw ((bytes_eq-Decides x k).0 p, stands_there k ks xs) refl
    by_case false p more = or_right (is_among k (ks ++ x ∷ xs)) (has_repeat (ks ++ x ∷ xs)) (more (rw p at e))

-- a name that does not
pub stays_apart : (ks : List (List ℕ)) (x : List ℕ) → has_repeat ks ≡ false → is_among x ks ≡ false → has_repeat (ks ++ x ∷ []) ≡ false
stays_apart [] x apart free = refl
stays_apart (k ∷ ks) x apart free =
    let here = other_name x k (or_parts (bytes_eq x k) (is_among x ks) free).0 in
    let before = (or_parts (is_among k ks) (has_repeat ks) apart).0 in
    let after = stays_apart ks x (or_parts (is_among k ks) (has_repeat ks) apart).1 (or_parts (bytes_eq x k) (is_among x ks) free).1 in
    rw (list_any-append (bytes_eq k) ks (x ∷ []), before, here, after) refl

-- what a set that takes a name says of it
pub is_free : (ks : List (List ℕ)) (x : List ℕ) (new : Bool) → new ≡ not (is_among x ks) → new ≡ true → is_among x ks ≡ false
is_free ks x new added e = by_case (is_among x ks) refl
  where
    by_case : (b : Bool) → is_among x ks ≡ b → is_among x ks ≡ false
    by_case true p =
        let none : true ≡ false = rw (← e, added, p) refl in
        absurd (cc)
    by_case false p = p
