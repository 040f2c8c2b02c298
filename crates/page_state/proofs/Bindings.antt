-- The names that an environment binds at first, with a table of them.
use Rattle.std.proofs.Common.{◌≡◌, refl, sym, ap, ◌∙◌, ℕ, ◌+◌, ◌<◌, Bool, true, false, ◌||◌, List, [], ◌∷◌, ◌++◌, length, take, get_or, Option, Some, None, is_some, bytes_eq, append_assoc}
use Rattle.std.proofs.lemmas.List.{take_more}
use Rattle.std.proofs.lemmas.Slice.Eq.{bytes_eq-Decides}
use Rattle.std.specs.List.{list_any}
use Rattle.std.proofs.lemmas.List.Folds.{list_any-append}
use Rattle.std.proofs.Math.Bool.{or-false}
use Rattle.indexmap.specs.IndexSet.{insert_key}
use Rattle.js_core.specs.Tree as tree
use Rattle.js_values.specs.declared.value.Value.{Value}
use Rattle.object_heap.specs.Environment.{Bound, value_of}
use Rattle.page_meaning.specs.Functions.{Declared, function_names, with_arguments, with_names}
use Rattle.page_state.specs.Entry.{AreSeen, but_first, first_or_undefined}

-- ---- formals with arguments

pub arguments_first : (x : List ℕ) (xs : List (List ℕ)) (vs : List Value) → with_arguments (x ∷ xs) vs ≡ (x, first_or_undefined vs) ∷ with_arguments xs (but_first vs)
arguments_first x xs [] = refl
arguments_first x xs (v ∷ vs) = refl

-- one formal more has its argument
pub arguments_on : (done done' all : Bound) (x : List ℕ) (xs rest : List (List ℕ)) (vs : List Value) (v : Value) → rest ≡ x ∷ xs → v ≡ first_or_undefined vs → done' ≡ done ++ (x, v) ∷ []
    → done ++ with_arguments rest vs ≡ all → done' ++ with_arguments xs (but_first vs) ≡ all
arguments_on done done' all x xs rest vs v is first pushed h =
    rw (pushed, first, append_assoc) (ap (λ b. done ++ b) (sym (arguments_first x xs vs)) ∙ ap (λ r. done ++ with_arguments r vs) (sym is) ∙ h)

-- ---- a table of names

same_name : (x : List ℕ) → bytes_eq x x ≡ true
same_name x = (bytes_eq-Decides x x).1 refl

-- a name that is put into a table
pub any_inserted : (ks : List (List ℕ)) (x y : List ℕ) → list_any (bytes_eq y) (insert_key bytes_eq ks x) ≡ (list_any (bytes_eq y) ks || bytes_eq y x)
any_inserted ks x y = by_case (list_any (bytes_eq x) ks) refl
  where
    stays : (b : Bool) → bytes_eq y x ≡ b → list_any (bytes_eq x) ks ≡ true → list_any (bytes_eq y) ks ≡ (list_any (bytes_eq y) ks || b)
    stays true e there = rw ((bytes_eq-Decides y x).0 e, there) refl
    stays false e there = sym (or-false (list_any (bytes_eq y) ks))

    by_case : (b : Bool) → list_any (bytes_eq x) ks ≡ b → list_any (bytes_eq y) (insert_key bytes_eq ks x) ≡ (list_any (bytes_eq y) ks || bytes_eq y x)
    by_case true p = rw p (stays (bytes_eq y x) refl p)
    by_case false p = rw p (list_any-append (bytes_eq y) ks (x ∷ []) ∙ ap (λ b. list_any (bytes_eq y) ks || b) (or-false (bytes_eq y x)))

-- a name that is bound last
bound_last : (b : Bound) (x y : List ℕ) (v : Value) → is_some (value_of (b ++ (x, v) ∷ []) y) ≡ (is_some (value_of b y) || bytes_eq y x)
bound_last [] x y v = by_case (bytes_eq y x) refl
  where
    by_case : (c : Bool) → bytes_eq y x ≡ c → is_some (value_of ((x, v) ∷ []) y) ≡ bytes_eq y x
    by_case true e = rw e refl
    by_case false e = rw e refl
bound_last (e ∷ b) x y v = by_case (bytes_eq y e.0) refl (bound_last b x y v)
  where
    by_case : (c : Bool) → bytes_eq y e.0 ≡ c → is_some (value_of (b ++ (x, v) ∷ []) y) ≡ (is_some (value_of b y) || bytes_eq y x) → is_some (value_of (e ∷ (b ++ (x, v) ∷ [])) y) ≡ (is_some (value_of (e ∷ b) y) || bytes_eq y x)
    by_case true p more = rw p refl
    by_case false p more = rw p more

pub none_seen : AreSeen [] []
none_seen = record { is = λ x. refl }

-- a name is bound, also again, and put into the table
pub seen_last : (ks ks' : List (List ℕ)) (b : Bound) (x : List ℕ) (v : Value) → AreSeen ks b → ks' ≡ insert_key bytes_eq ks x → AreSeen ks' (b ++ (x, v) ∷ [])
seen_last ks ks' b x v seen put =
    record { is = λ y. rw put (any_inserted ks x y ∙ ap (λ c. c || bytes_eq y x) (seen.is y) ∙ sym (bound_last b x y v)) }

-- the next of some names is put into the table
pub seen_next : (ks ks' : List (List ℕ)) (names : Bound) (i : ℕ) (p : List ℕ × Value) (x : List ℕ) → AreSeen ks (take i names) → i < length names → p ≡ get_or names i p → x ≡ p.0 → ks' ≡ insert_key bytes_eq ks x
    → AreSeen ks' (take (i + 1) names)
seen_next ks ks' names i p x seen there is named put =
    let all : take (i + 1) names ≡ take i names ++ p ∷ [] = take_more names i p there ∙ ap (λ q. take i names ++ q ∷ []) (sym is) in
    rw all (seen_last ks ks' (take i names) p.0 p.1 seen (put ∙ ap (insert_key bytes_eq ks) named))

-- a name that is pushed is put into the table
pub seen_pushed : (ks ks' : List (List ℕ)) (b b' : Bound) (x y z : List ℕ) (v : Value) → AreSeen ks b → x ≡ z → y ≡ z → ks' ≡ insert_key bytes_eq ks x → b' ≡ b ++ (y, v) ∷ [] → AreSeen ks' b'
seen_pushed ks ks' b b' x y z v seen one two put pushed =
    rw (pushed, two) (seen_last ks ks' b z v seen (put ∙ ap (insert_key bytes_eq ks) one))

-- ---- one name more of a list

pub names_on : (b b' all : Bound) (x : List ℕ) (xs rest : List (List ℕ)) → rest ≡ x ∷ xs → b' ≡ with_names b (x ∷ []) → with_names b rest ≡ all → with_names b' xs ≡ all
names_on b b' all x xs rest is added h = rw added (ap (with_names b) (sym is) ∙ h)

pub names_of_both : (b : Bound) (d : Option (List ℕ) × tree.Code) (ds : Declared) → with_names (with_names b (function_names (d ∷ []))) (function_names ds) ≡ with_names b (function_names (d ∷ ds))
names_of_both b (None, c) ds = refl
names_of_both b (Some x, c) ds = refl
