-- What holds of each array (ECMA-262 5.1 section 15.4.5).
use Rattle.std.specs.Prelude.{◌≡◌, ℕ, ◌≤◌, IsTrue, true, false, List, Some}
use Rattle.std.specs.List.{list_all}
use Rattle.object_heap.specs.Object.{is_list, Object}
use Rattle.object_heap.specs.declared.property.Prop.{Prop}
use Rattle.object_heap.specs.Chain.{object_at}
use Rattle.object_heap.specs.Define.{is_below, length_name, number, number_in}
use Rattle.object_heap.specs.Index.{index_end, index_of}
use Rattle.object_heap.specs.Property.{Props, own_property}

-- a number from 0 to 2^32 - 1 that is neither enumerable nor configurable
pub record IsLength (p : Prop) : Type 0 where
  pub number : p.value ≡ number (number_in p.value)
  pub small : number_in p.value ≤ index_end
  pub enumerable : p.enumerable ≡ false
  pub configurable : p.configurable ≡ false

-- there is a length, and it is above the index of each element
pub record IsArray (props : Props) : Type 0 where
  pub length : Prop
  pub there : own_property props length_name ≡ Some length
  pub is_length : IsLength length
  pub above : list_all (λ e. is_below (number_in length.value) (index_of e.0)) props ≡ true

-- an object, which if it is an array is one
abbrev pub IsProper : Object → Type 0
IsProper o = IsTrue (is_list o.class) → IsArray o.props

abbrev pub AreProper : List Object → Type 0
AreProper objects = (k : ℕ) → IsProper (object_at objects k)
