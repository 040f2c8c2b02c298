-- Own properties, one after another.
use Rattle.std.proofs.Common.{◌≡◌, refl, sym, ap, ◌∙◌, ℕ, zero, suc, ◌+◌, Bool, true, false, not, ◌&&◌, List, [], ◌∷◌, ◌++◌, drop, Some, add-one, append_assoc}
use Rattle.std.specs.List.{list_all, slice_get}
use Rattle.object_heap.specs.declared.property.Prop.{Prop}
use Rattle.object_heap.specs.Property.{Props}
use Rattle.page_meaning.specs.ObjectRows.{enumerable_names}
use Rattle.builtin_object.specs.Own.{enumerable_name, fast_or_none, is_fast}

-- ---- names

name_or_not : (e : List ℕ × Prop) (props : Props) (b : Bool) → e.1.enumerable ≡ b → enumerable_names (e ∷ props) ≡ enumerable_name (Some e) ++ enumerable_names props
name_or_not e props true h = rw h refl
name_or_not e props false h = rw h refl

names_at : (props : Props) (k : ℕ) → enumerable_names (drop k props) ≡ enumerable_name (slice_get props k) ++ enumerable_names (drop (suc k) props)
names_at [] zero = refl
names_at [] (suc k) = refl
names_at (e ∷ props) zero = name_or_not e props e.1.enumerable refl
names_at (e ∷ props) (suc k) = names_at props k

pub names_on : (props : Props) (k : ℕ) (names names' : List (List ℕ)) → names' ≡ names ++ enumerable_name (slice_get props k) → names ++ enumerable_names (drop k props) ≡ enumerable_names props
    → names' ++ enumerable_names (drop (k + 1) props) ≡ enumerable_names props
names_on props k names names' more h =
    rw (more, append_assoc, add-one) (ap (λ r. names ++ r) (sym (names_at props k)) ∙ h)

-- ---- sealed and frozen ones

all_at : (frozen : Bool) (props : Props) (k : ℕ) → list_all (λ e. is_fast frozen e.1) (drop k props) ≡ (fast_or_none frozen (slice_get props k) && list_all (λ e. is_fast frozen e.1) (drop (suc k) props))
all_at frozen [] zero = refl
all_at frozen [] (suc k) = refl
all_at frozen (e ∷ props) zero = refl
all_at frozen (e ∷ props) (suc k) = all_at frozen props k

-- a fast one leaves the rest
pub all_on : (frozen : Bool) (props : Props) (k : ℕ) (b : Bool) → b ≡ fast_or_none frozen (slice_get props k) → not b ≡ false → list_all (λ e. is_fast frozen e.1) (drop k props) ≡ list_all (λ e. is_fast frozen e.1) props
    → list_all (λ e. is_fast frozen e.1) (drop (k + 1) props) ≡ list_all (λ e. is_fast frozen e.1) props
all_on frozen props k true e f h = rw add-one (ap (λ q. q && list_all (λ e. is_fast frozen e.1) (drop (suc k) props)) e ∙ sym (all_at frozen props k) ∙ h)
all_on frozen props k false e f h = cc f

-- one that is not fast decides
pub all_stop : (frozen : Bool) (props : Props) (k : ℕ) (b : Bool) → b ≡ fast_or_none frozen (slice_get props k) → not b ≡ true → list_all (λ e. is_fast frozen e.1) (drop k props) ≡ list_all (λ e. is_fast frozen e.1) props
    → false ≡ list_all (λ e. is_fast frozen e.1) props
all_stop frozen props k false e f h = ap (λ q. q && list_all (λ e. is_fast frozen e.1) (drop (suc k) props)) e ∙ sym (all_at frozen props k) ∙ h
all_stop frozen props k true e f h = cc f
