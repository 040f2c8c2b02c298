-- How the standard shrinks an array: element by element, from the top (ECMA-262 5.1 section 15.4.5.1 step 3.l).
use Rattle.std.specs.Prelude.{◌≡◌, ℕ, zero, suc, ◌+◌, ◌≤◌, true, Option, Some, None, if◌then◌else◌}
use Rattle.std.specs.Fmt.{decimal}
use Rattle.std.specs.List.{list_all}
use Rattle.std.specs.Option.{ForSome}
use Rattle.object_heap.specs.declared.property.Prop.{Prop}
use Rattle.object_heap.specs.Define.{elements_below, end_kept, is_below}
use Rattle.object_heap.specs.Index.{index_end, index_of}
use Rattle.object_heap.specs.Property.{HasDistinctNames, Props, own_property, without_property}

-- the element of this index, if there is one, is deleted and then the others; where it may not be, the length is one more
abbrev pub one_deleted : ℕ → Props → Option Prop → (Props → Props × ℕ) → Props × ℕ
one_deleted i props None others = others props
one_deleted i props (Some p) others = if p.configurable then others (without_property props (decimal i)) else (props, i + 1)

-- the properties and the length that are left, with n elements to go above the length that is asked for
abbrev pub counted_down : ℕ → ℕ → Props → Props × ℕ
counted_down end zero props = (props, end)
counted_down end (suc n) props = one_deleted (end + n) props (own_property props (decimal (end + n))) (λ rest. counted_down end n rest)

-- all elements are below n
abbrev pub AreBelow : ℕ → Props → Type 0
AreBelow n props = list_all (λ e. is_below n (index_of e.0)) props ≡ true

-- what a shrink leaves, and the length
abbrev pub shrunk_props : ℕ → Props → Props × ℕ
shrunk_props end props = (elements_below (end_kept end props) props, end_kept end props)

-- this element, if there is one, might be deleted, and it is gone
pub record IsTaken (i : ℕ) (old new : Props) : Type 0 where
  pub free : ForSome (own_property old (decimal i)) (λ p. p.configurable ≡ true)
  pub gone : new ≡ without_property old (decimal i)

-- what the count leaves is what the definition says, where the length was n more than asked for
abbrev pub ShrinksAsCounted : Type 0
ShrinksAsCounted =
    (end n : ℕ) (props : Props) → end + n ≤ index_end → HasDistinctNames props
    → list_all (λ e. is_below (end + n) (index_of e.0)) props ≡ true
    → counted_down end n props ≡ (elements_below (end_kept end props) props, end_kept end props)
