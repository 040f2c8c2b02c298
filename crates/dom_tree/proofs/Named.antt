-- Attributes, as far as they were read.
use Rattle.std.proofs.Common.{◌≡◌, refl, sym, ap, ◌∙◌, ℕ, suc, ◌+◌, ◌<◌, ◌≤◌, true, false, List, [], ◌∷◌, ◌++◌, Some, length, slice_index_or, slice_set, take, drop, bytes_eq, add-one, append_assoc, arith}
use Rattle.std.proofs.Math.Seq.{drop-cons}
use Rattle.std.proofs.lemmas.List.{take_more, take-append-drop, set_split}
use Rattle.std.proofs.lemmas.List.{same_lists, get_or_default}
use Rattle.std.proofs.lemmas.Slice.Eq.{bytes_eq-Decides}
use Rattle.std.proofs.Math.ListN.{drop_of_length-le}
use Rattle.js_core.specs.Text.{Text}
use Rattle.dom_tree.specs.Attributes.{Pairs, value_of, with_value_of, without_value_of}

-- two lists are equal where they are as long and agree at each index
pub bytes_eq-each : (xs ys : List ℕ) → length xs ≡ length ys → ((k : ℕ) → k < length ys → slice_index_or xs k 0 ≡ slice_index_or ys k 0) → bytes_eq xs ys ≡ true
bytes_eq-each xs ys long each =
    (bytes_eq-Decides xs ys).1
    (same_lists xs ys long
    (λ k d h. let within : k < length ys = omega arith in get_or_default xs k d 0 h ∙ each k within ∙ get_or_default ys k 0 d within))

rest_at : (names : Pairs) (i : ℕ) (x : Text × Text) → i < length names → x ≡ slice_index_or names i x → drop i names ≡ x ∷ drop (i + 1) names
rest_at names i x there is = rw add-one (drop-cons names i x there ∙ ap (λ y. y ∷ drop (suc i) names) (sym is))

pub value_here : (names : Pairs) (i : ℕ) (x : Text × Text) (name : Text) → i < length names → x ≡ slice_index_or names i x → bytes_eq x.0 name ≡ true → value_of name (drop i names) ≡ Some x.1
value_here names i x name there is same = rw (rest_at names i x there is) (rw same refl)

pub value_past : (names : Pairs) (i : ℕ) (x : Text × Text) (name : Text) → i < length names → x ≡ slice_index_or names i x → bytes_eq x.0 name ≡ false → value_of name (drop i names) ≡ value_of name (drop (i + 1) names)
value_past names i x name there is other = rw (rest_at names i x there is) (rw other refl)

-- a change of the list, as far as it was read, changes what is left
module _ (F : Pairs → Pairs) where
  abbrev pub IsPast : Pairs → ℕ → Type 0
  IsPast names i = F names ≡ take i names ++ F (drop i names)

  pub past_more : (names : Pairs) (i : ℕ) (x : Text × Text) → i < length names → x ≡ slice_index_or names i x → ((r : Pairs) → F (x ∷ r) ≡ x ∷ F r) → IsPast names i → IsPast names (i + 1)
  past_more names i x there is keeps past =
      let rest : F (drop i names) ≡ x ∷ F (drop (i + 1) names) = ap F (rest_at names i x there is) ∙ keeps (drop (i + 1) names) in
      let more : take (i + 1) names ≡ take i names ++ x ∷ [] = take_more names i x there ∙ ap (λ y. take i names ++ y ∷ []) (sym is) in
      past ∙ ap (λ r. take i names ++ r) rest ∙ sym (ap (λ t. t ++ F (drop (i + 1) names)) more ∙ append_assoc (take i names) (x ∷ []) (F (drop (i + 1) names)))

  pub past_end : (names : Pairs) (i : ℕ) → length names ≤ i → IsPast names i → F names ≡ names ++ F []
  past_end names i end past =
      let none = drop_of_length-le names {i = i} end in
      past ∙ ap (λ r. take i names ++ F r) none ∙ ap (λ t. t ++ F []) (sym (sym (take-append-drop i names) ∙ ap (λ r. take i names ++ r) none ∙ plain (take i names)))
    where
      plain : (xs : Pairs) → xs ++ [] ≡ xs
      plain [] = refl
      plain (x ∷ xs) = ap (λ r. x ∷ r) (plain xs)

pub set_here : (names : Pairs) (i : ℕ) (x : Text × Text) (name v : Text) → i < length names → x ≡ slice_index_or names i x → bytes_eq x.0 name ≡ true → IsPast (with_value_of name v) names i → slice_set names i (x.0, v) ≡ with_value_of name v names
set_here names i x name v there is same past =
    let rest : with_value_of name v (drop i names) ≡ (x.0, v) ∷ drop (suc i) names = rw (rest_at names i x there is) (rw (same, add-one) refl) in
    set_split names i (x.0, v) there ∙ sym (past ∙ ap (λ r. take i names ++ r) rest)

pub remove_here : (names : Pairs) (i : ℕ) (x : Text × Text) (name : Text) → i < length names → x ≡ slice_index_or names i x → bytes_eq x.0 name ≡ true → IsPast (without_value_of name) names i → take i names ++ drop (suc i) names ≡ without_value_of name names
remove_here names i x name there is same past =
    let rest : without_value_of name (drop i names) ≡ drop (suc i) names = rw (rest_at names i x there is) (rw (same, add-one) refl) in
    sym (past ∙ ap (λ r. take i names ++ r) rest)
