-- Names with values, as far as they were read.
use Rattle.std.proofs.Common.{◌≡◌, refl, sym, ap, ◌∙◌, ℕ, zero, suc, ◌+◌, ◌<◌, ◌≤◌, true, false, List, [], ◌∷◌, ◌++◌, Some, length, slice_index_or, slice_set, take, drop, bytes_eq, add-one, append_assoc, arith}
use Rattle.std.proofs.Math.Seq.{drop-cons}
use Rattle.std.proofs.lemmas.List.{take_more, take-append-drop}
use Rattle.std.proofs.Math.ListN.{drop_of_length-le}
use Rattle.js_values.specs.declared.value.Value.{Value}
use Rattle.object_heap.specs.Environment.{Bound, value_of, with_value_of}

rest_at : (names : Bound) (i : ℕ) (x : List ℕ × Value) → i < length names → x ≡ slice_index_or names i x → drop i names ≡ x ∷ drop (i + 1) names
rest_at names i x there is = rw add-one (drop-cons names i x there ∙ ap (λ y. y ∷ drop (suc i) names) (sym is))

pub value_here : (names : Bound) (i : ℕ) (x : List ℕ × Value) (name : List ℕ) → i < length names → x ≡ slice_index_or names i x → bytes_eq name x.0 ≡ true → value_of (drop i names) name ≡ Some x.1
value_here names i x name there is same = rw (rest_at names i x there is) (rw same refl)

pub value_past : (names : Bound) (i : ℕ) (x : List ℕ × Value) (name : List ℕ) → i < length names → x ≡ slice_index_or names i x → bytes_eq name x.0 ≡ false → value_of (drop i names) name ≡ value_of (drop (i + 1) names) name
value_past names i x name there is other = rw (rest_at names i x there is) (rw other refl)

set_split : (names : Bound) (i : ℕ) (y : List ℕ × Value) → i < length names → slice_set names i y ≡ take i names ++ y ∷ drop (suc i) names
set_split [] i y there = absurd (omega (arith, there))
set_split (x ∷ xs) zero y there = refl
set_split (x ∷ xs) (suc i) y there = ap (λ r. x ∷ r) (set_split xs i y (omega (arith, there)))

-- the part that is read has no such name
abbrev pub IsSetPast : Bound → ℕ → List ℕ → Value → Type 0
IsSetPast names i name v = with_value_of names name v ≡ take i names ++ with_value_of (drop i names) name v

pub set_here : (names : Bound) (i : ℕ) (x : List ℕ × Value) (name : List ℕ) (v : Value) → i < length names → x ≡ slice_index_or names i x → bytes_eq name x.0 ≡ true → IsSetPast names i name v → slice_set names i (x.0, v) ≡ with_value_of names name v
set_here names i x name v there is same past =
    let rest : with_value_of (drop i names) name v ≡ (x.0, v) ∷ drop (suc i) names = rw (rest_at names i x there is) (rw (same, add-one) refl) in
    set_split names i (x.0, v) there ∙ sym (past ∙ ap (λ r. take i names ++ r) rest)

pub set_past : (names : Bound) (i : ℕ) (x : List ℕ × Value) (name : List ℕ) (v : Value) → i < length names → x ≡ slice_index_or names i x → bytes_eq name x.0 ≡ false → IsSetPast names i name v → IsSetPast names (i + 1) name v
set_past names i x name v there is other past =
    let rest : with_value_of (drop i names) name v ≡ x ∷ with_value_of (drop (i + 1) names) name v = rw (rest_at names i x there is) (rw other refl) in
    let more : take (i + 1) names ≡ take i names ++ x ∷ [] = take_more names i x there ∙ ap (λ y. take i names ++ y ∷ []) (sym is) in
    past ∙ ap (λ r. take i names ++ r) rest ∙ sym (ap (λ t. t ++ with_value_of (drop (i + 1) names) name v) more ∙ append_assoc (take i names) (x ∷ []) (with_value_of (drop (i + 1) names) name v))

pub set_end : (names : Bound) (i : ℕ) (name : List ℕ) (v : Value) → length names ≤ i → IsSetPast names i name v → names ≡ with_value_of names name v
set_end names i name v past_end past =
    let none = drop_of_length-le names {i = i} past_end in
    sym (past ∙ ap (λ r. take i names ++ with_value_of r name v) none ∙ sym (ap (λ r. take i names ++ r) none) ∙ take-append-drop i names)
