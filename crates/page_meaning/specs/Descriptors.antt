-- Meaning: property descriptors as objects, and definitions by them (sections 8.10 and 15.2.3).
use Rattle.std.specs.Prelude.{refl, ℕ, Bool, true, ◌||◌, List, [], ◌∷◌, Option, Some, None, Result, Ok, Err, codes, if◌then◌else◌}
use Rattle.std.specs.Option.{option_map}
use Rattle.js_values.specs.declared.ids.ObjId.{ObjId}
use Rattle.js_values.specs.declared.throw.Throw.{Throw}
use Rattle.js_values.specs.declared.throw.Throw.TheVariants.{WrongArgument}
use Rattle.js_values.specs.declared.value.Value.{Value}
use Rattle.js_values.specs.declared.value.Value.TheVariants as value
use Rattle.object_heap.specs.declared.object.Class.TheVariants.{Plain}
use Rattle.object_heap.specs.declared.property.Change.{Change}
use Rattle.object_heap.specs.declared.property.Prop.{Prop}
use Rattle.object_heap.specs.Chain.{get}
use Rattle.object_heap.specs.Define.{length_name}
use Rattle.object_heap.specs.Heap.{IsFit}
use Rattle.object_heap.specs.Object.{Object, whole_object}
use Rattle.object_heap.specs.Property.{Props}
use Rattle.object_heap.proofs.Callers.{names_last, ordinary_fit, two_names}
use Rattle.whole_ops.specs.Conversions.{is_true}
use Rattle.page_meaning.specs.Act.{Act, bind, done, also, asking, choose}
use Rattle.page_meaning.specs.Convert.{number_of}
use Rattle.page_meaning.specs.Errors.{settle, unless}
use Rattle.page_meaning.specs.Functions.{object_of}
use Rattle.page_meaning.specs.Places.{object_prototype}
use Rattle.page_meaning.specs.Primitives.{define_at, make}
use Rattle.page_meaning.specs.Properties.{has_property, is_length_of, seen_at}
use Rattle.page_host.specs.declared.host_name.HostName.{HostName}
use Rattle.page_host.specs.declared.host_name.HostName.TheVariants.{Value as HasValue}
use Rattle.page_meaning.specs.HostNames.{Seen, held, hosted, host_reads}
use Rattle.page_meaning.specs.Store.{Store}

-- a property that may be written, listed and configured
abbrev pub open_property : Value → Prop
open_property v = record { value = v; writable = true; enumerable = true; configurable = true }

-- FromPropertyDescriptor (8.10.4): two properties, then two more
abbrev pub data_props : Prop → Props
data_props p = (codes "value", open_property p.value) ∷ (codes "writable", open_property (value.Bool p.writable)) ∷ []

abbrev pub enumerable_field : Prop → List ℕ × Prop
enumerable_field p = (codes "enumerable", open_property (value.Bool p.enumerable))

abbrev pub configurable_field : Prop → List ℕ × Prop
configurable_field p = (codes "configurable", open_property (value.Bool p.configurable))

abbrev pub descriptor_props : Prop → Props
descriptor_props p =
    (codes "value", open_property p.value) ∷ (codes "writable", open_property (value.Bool p.writable)) ∷ enumerable_field p ∷ configurable_field p ∷ []

abbrev pub descriptor_object : Prop → Object
descriptor_object p = whole_object Plain (Some object_prototype) (descriptor_props p)

pub descriptor_fit : (p : Prop) → IsFit (descriptor_object p)
descriptor_fit p =
    ordinary_fit Plain (Some object_prototype) (descriptor_props p) refl
    (names_last ((codes "value", open_property p.value) ∷ (codes "writable", open_property (value.Bool p.writable)) ∷ enumerable_field p ∷ [])
    (codes "configurable") (open_property (value.Bool p.configurable)) refl
    (names_last (data_props p) (codes "enumerable") (open_property (value.Bool p.enumerable)) refl
    (two_names (codes "value") (open_property p.value) (codes "writable") (open_property (value.Bool p.writable)) refl)))

abbrev pub new_descriptor : Prop → Act
new_descriptor p = bind (make (descriptor_object p) (descriptor_fit p) refl) object_of

-- what a descriptor asks for: the fields that the object has, itself or from a prototype (8.10.5)
abbrev pub field_of : Store → ObjId → List ℕ → Option Value
field_of s at x = get s.heap.objects at.0 x

abbrev pub flag_of : Store → ObjId → List ℕ → Option Bool
flag_of s at x = option_map is_true (field_of s at x)

abbrev pub some_ok : Result Value Throw → Result (Option Value) Throw
some_ok (Ok v) = Ok (Some v)
some_ok (Err t) = Err t

-- the field `value`, which may be a host name
abbrev pub value_field : Store → ObjId → HostName → Option Seen → Result (Option Value) Throw
value_field s at n None = Ok None
value_field s at n (Some (held p)) = Ok (Some p.value)
value_field s at n (Some (hosted c)) = some_ok (host_reads s.host c n)

abbrev pub change_of : Store → ObjId → Option Value → Change
change_of s at v = record {
  value = v;
  writable = flag_of s at (codes "writable");
  enumerable = flag_of s at (codes "enumerable");
  configurable = flag_of s at (codes "configurable");
}

abbrev pub has_accessor : Store → ObjId → Bool
has_accessor s at = has_property s at (codes "get") || has_property s at (codes "set")

-- ToPropertyDescriptor (8.10.5), where the value is a descriptor. There are no accessors
abbrev pub change_with : Store → ObjId → Result (Option Value) Throw → Result Change Throw
change_with s at (Err t) = Err t
change_with s at (Ok v) = if has_accessor s at then Err WrongArgument else Ok (change_of s at v)

abbrev pub change_in : Store → Value → Result Change Throw
change_in s (value.Object at) = change_with s at (value_field s at HasValue (seen_at s at (codes "value") HasValue))
change_in s v = Err WrongArgument

abbrev pub define_or_throw : ObjId → List ℕ → Change → Act
define_or_throw at x change = unless (define_at at x change) done

abbrev pub change_to : Change → Value → Change
change_to change v = record { value = Some v; writable = change.writable; enumerable = change.enumerable; configurable = change.configurable }

-- the value that is to become an array's length is made a number, before any other test
abbrev pub define_length : ObjId → Change → Option Value → Act
define_length at change None = define_or_throw at length_name change
define_length at change (Some v) = also (settle (number_of v)) (λ n. define_or_throw at length_name (change_to change n))

-- [[DefineOwnProperty]] (8.12.9, 15.4.5.1)
abbrev pub define_in : ObjId → List ℕ → Change → Act
define_in at x change = asking (λ s. is_length_of s at x) (λ b. choose b (define_length at change change.value) (define_or_throw at x change))
