-- Meaning: what is read of values (sections 8.7.1, 8.12.2 and 8.12.3). It stands below the conversions, which will read methods.
use Rattle.std.specs.Prelude.{ℕ, Bool, true, false, List, [], ◌∷◌, length, Option, Some, None, Result, Ok, slice_get, unwrap_or, bytes_eq, if◌then◌else◌}
use Rattle.std.specs.Option.{option_map}
use Rattle.js_values.specs.declared.ids.ObjId.{ObjId}
use Rattle.js_values.specs.declared.throw.Throw.{Throw}
use Rattle.js_values.specs.declared.value.Value.{Value}
use Rattle.js_values.specs.declared.value.Value.TheVariants.{Undefined, Bool as Truth, Num, Text, Object}
use Rattle.object_heap.specs.Chain.{get}
use Rattle.object_heap.specs.Define.{length_name, number}
use Rattle.object_heap.specs.Index.{index_of}
use Rattle.page_host.specs.declared.host_name.HostName.{HostName}
use Rattle.page_host.specs.HostNames.{host_name}
use Rattle.page_meaning.specs.Act.{Act, asking}
use Rattle.page_meaning.specs.Errors.{settle}
use Rattle.page_meaning.specs.HostNames.{Seen, held, hosted, host_reads, seen_from}
use Rattle.page_meaning.specs.Places.{string_prototype, number_prototype, boolean_prototype}
use Rattle.page_meaning.specs.Store.{Store}

-- what a text has at an index
abbrev pub unit_at : List ℕ → Option ℕ → Option Value
unit_at t None = None
unit_at t (Some i) = option_map (λ u. Text (u ∷ [])) (slice_get t i)

-- the own properties of a text: its length and its units (15.5.5)
abbrev pub own_of_text : List ℕ → List ℕ → Option Value
own_of_text t x = if bytes_eq x length_name then Some (number (length t)) else unit_at t (index_of x)

-- a property of an object, or undefined
abbrev pub get_at : Store → ObjId → List ℕ → Value
get_at s at x = unwrap_or (get s.heap.objects at.0 x) Undefined

-- a property that a primitive value has from its prototype, where there is one
abbrev pub inherited : Store → Option ObjId → List ℕ → Value
inherited s None x = Undefined
inherited s (Some at) x = get_at s at x

-- what was seen of a host name, as a value
abbrev pub seen_value : Store → HostName → Option Seen → Result Value Throw
seen_value s n None = Ok Undefined
seen_value s n (Some (held p)) = Ok p.value
seen_value s n (Some (hosted c)) = host_reads s.host c n

abbrev pub seen_at : Store → ObjId → List ℕ → HostName → Option Seen
seen_at s at x n = seen_from s.host s.heap.objects at.0 x n

-- a property of an object, where a name may be one of the host's: the first object of the chain that has it answers
abbrev pub named_at : Store → ObjId → List ℕ → Option HostName → Result Value Throw
named_at s at x None = Ok (get_at s at x)
named_at s at x (Some n) = seen_value s n (seen_at s at x n)

-- the property of a value that can have some: an object's, or that of what stands for a primitive value (8.7.1), which has no host names
abbrev pub property_of : Store → Value → List ℕ → Result Value Throw
property_of s (Object at) x = named_at s at x (host_name x)
property_of s (Text t) x = Ok (unwrap_or (own_of_text t x) (inherited s string_prototype x))
property_of s (Num n) x = Ok (inherited s number_prototype x)
property_of s (Truth b) x = Ok (inherited s boolean_prototype x)
property_of s v x = Ok Undefined

-- reads it; a host name's text may be too long
abbrev pub read_property : Value → List ℕ → Act
read_property base x = asking (λ s. property_of s base x) settle

abbrev pub is_object : Value → Bool
is_object (Object at) = true
is_object v = false
