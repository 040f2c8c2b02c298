-- Attributes, as far as they were read.
use Rattle.std.proofs.Common.{◌≡◌, refl, sym, ap, ◌∙◌, ℕ, suc, ◌+◌, ◌<◌, true, false, ◌∷◌, Some, length, slice_index_or, drop, bytes_eq, add-one}
use Rattle.std.proofs.Math.Seq.{drop-cons}
use Rattle.js_core.specs.Text.{Text}
use Rattle.dom_tree.specs.Attributes.{Pairs, value_of}

pub rest_at : (names : Pairs) (i : ℕ) (x : Text × Text) → i < length names → x ≡ slice_index_or names i x → drop i names ≡ x ∷ drop (i + 1) names
rest_at names i x there is = rw add-one (drop-cons names i x there ∙ ap (λ y. y ∷ drop (suc i) names) (sym is))

pub value_here : (names : Pairs) (i : ℕ) (x : Text × Text) (name : Text) → i < length names → x ≡ slice_index_or names i x → bytes_eq x.0 name ≡ true → value_of name (drop i names) ≡ Some x.1
value_here names i x name there is same = rw (rest_at names i x there is) (rw same refl)

pub value_past : (names : Pairs) (i : ℕ) (x : Text × Text) (name : Text) → i < length names → x ≡ slice_index_or names i x → bytes_eq x.0 name ≡ false → value_of name (drop i names) ≡ value_of name (drop (i + 1) names)
value_past names i x name there is other = rw (rest_at names i x there is) (rw other refl)
