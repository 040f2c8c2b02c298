-- Properties, and what is asked of them (ECMA-262 5.1 sections 8.10 and 8.12.9).
use Rattle.std.specs.Prelude.{ℕ, Bool, true, false, List, Option, Some, None, ◌&&◌, ◌||◌, not, nat_eq, bytes_eq, unwrap_or}
use Rattle.std.specs.Ordering.{int_eq}
use Rattle.std.specs.Option.{option_eq}
use Rattle.std.specs.List.{IsDistinct}
use Rattle.std.specs.Map.{lookup, set_value, remove_entry, keys_of}
use Rattle.js_values.specs.declared.value.Value.{Value}
use Rattle.js_values.specs.declared.value.Value.TheVariants.{Undefined, Null, Bool as Truth, Num, Text, Object}
use Rattle.object_heap.specs.declared.property.Prop.{Prop}
use Rattle.object_heap.specs.declared.property.Change.{Change}

-- names with properties, in order of creation
abbrev pub Props : Type 0
Props = List (List ℕ × Prop)

-- the property of the name, where there is one (section 8.12.1)
abbrev pub own_property : Props → List ℕ → Option Prop
own_property props name = lookup (bytes_eq name) props

-- the property of the name becomes another, at its place
abbrev pub with_property : Props → List ℕ → Prop → Props
with_property props name p = set_value (bytes_eq name) props p

-- without the property of the name; the others keep their order
abbrev pub without_property : Props → List ℕ → Props
without_property props name = remove_entry (bytes_eq name) props

-- no two have the same name
abbrev pub HasDistinctNames : Props → Type 0
HasDistinctNames props = IsDistinct bytes_eq (keys_of props)

abbrev pub same_truth : Bool → Bool → Bool
same_truth true b = b
same_truth false b = not b

-- the same value (section 9.12)
abbrev pub same_value : Value → Value → Bool
same_value Undefined Undefined = true
same_value Null Null = true
same_value (Truth a) (Truth b) = same_truth a b
same_value (Num a) (Num b) = option_eq int_eq a b
same_value (Text a) (Text b) = bytes_eq a b
same_value (Object a) (Object b) = nat_eq a.0 b.0
same_value a b = false

-- a property that stays as it is
abbrev pub fixed : Value → Prop
fixed v = record { value = v; writable = false; enumerable = false; configurable = false }

-- one that may be written and nothing else
abbrev pub lasting : Value → Prop
lasting v = record { value = v; writable = true; enumerable = false; configurable = false }

-- one that may be written and deleted and is not seen
abbrev pub hidden : Value → Prop
hidden v = record { value = v; writable = true; enumerable = false; configurable = true }

-- the attribute is asked for, and true
abbrev pub asks : Option Bool → Bool
asks change = unwrap_or change false

-- the attribute stays as it is
abbrev pub keeps : Option Bool → Bool → Bool
keeps None old = true
keeps (Some b) old = same_truth b old

abbrev pub keeps_value : Option Value → Value → Bool
keeps_value None old = true
keeps_value (Some v) old = same_value v old

-- a new property: what is not asked for is undefined or false (section 8.12.9 step 4)
abbrev pub created : Change → Prop
created change = record {
  value = unwrap_or change.value Undefined;
  writable = asks change.writable;
  enumerable = asks change.enumerable;
  configurable = asks change.configurable;
}

-- a property may be changed so (section 8.12.9 steps 7 and 10)
abbrev pub may_update : Prop → Change → Bool
may_update p change =
    p.configurable
    || (not (asks change.configurable) && keeps change.enumerable p.enumerable
    && (p.writable || (not (asks change.writable) && keeps_value change.value p.value)))

-- the property, with what is asked for (section 8.12.9 step 12)
abbrev pub updated : Prop → Change → Prop
updated p change = record {
  value = unwrap_or change.value p.value;
  writable = unwrap_or change.writable p.writable;
  enumerable = unwrap_or change.enumerable p.enumerable;
  configurable = unwrap_or change.configurable p.configurable;
}
