-- Meaning: properties of values (sections 8.7, 8.12 and 11.2.1).
use Rattle.std.specs.Prelude.{ℕ, ◌&&◌, Bool, true, List, Option, Some, None, is_some, bytes_eq}
use Rattle.js_values.specs.declared.ids.ObjId.{ObjId}
use Rattle.js_values.specs.declared.throw.Throw.TheVariants.{NoProperties, CannotDelete}
use Rattle.js_values.specs.declared.value.Value.{Value}
use Rattle.js_values.specs.declared.value.Value.TheVariants.{Undefined, Null, Bool as Truth, Text, Object}
use Rattle.object_heap.specs.Chain.{get_property}
use Rattle.object_heap.specs.Define.{length_name, whole_property}
use Rattle.object_heap.specs.Object.{is_list}
use Rattle.page_meaning.specs.Act.{Act, Calls, give, also, asking, choose}
use Rattle.page_meaning.specs.Convert.{number_of, text_in, operand_text}
use Rattle.page_host.specs.declared.host_name.HostName.{HostName}
use Rattle.page_host.specs.HostNames.{host_name}
use Rattle.page_meaning.specs.Errors.{raise, settle, unless}
use Rattle.page_meaning.specs.HostNames.{has_named_host}
use Rattle.page_meaning.specs.Primitives.{put_at, define_at, delete_at}
pub use Rattle.page_meaning.specs.Classes.{class_at, class_of, is_function}
pub use Rattle.page_meaning.specs.Reading.{unit_at, own_of_text, get_at, inherited, seen_value, seen_at, named_at, property_of, read_property, is_object}
use Rattle.page_meaning.specs.Store.{Store}

-- the value, where it can have properties (9.10)
abbrev pub with_properties : Value → Act
with_properties Undefined = raise NoProperties
with_properties Null = raise NoProperties
with_properties v = give v

-- `base.name` as a value
abbrev pub get_member : Value → List ℕ → Act
get_member base x = also (with_properties base) (λ _. read_property base x)

-- the name that a value in brackets gives (11.2.1): first the base is tested
abbrev pub key_of : Calls → Value → Value → Act
key_of calls base key = also (with_properties base) (λ _. operand_text calls key)

-- `base[key]` as a value
abbrev pub get_index : Calls → Value → Value → Act
get_index calls base key = also (key_of calls base key) (λ x. read_property base (text_in x))

abbrev pub is_length_of : Store → ObjId → List ℕ → Bool
is_length_of s at x = is_list (class_at s at) && bytes_eq x length_name

abbrev pub stored : ObjId → List ℕ → Value → Act
stored at x v = unless (put_at at x v) (give v)

-- the property of an object becomes the value; the length of an array is made a number first, before any other test
abbrev pub put_in : ObjId → List ℕ → Value → Act
put_in at x v = asking (λ s. is_length_of s at x) (λ b. choose b (also (settle (number_of v)) (stored at x)) (stored at x v))

-- whether the name is a host name of the object itself
abbrev pub has_own_host : Store → ObjId → List ℕ → Bool
has_own_host s at x = has_named_host s.host.nodes (class_at s at) (host_name x)

abbrev pub has_unit : List ℕ → List ℕ → Act
has_unit t x = choose (is_some (own_of_text t x)) (raise CannotDelete) (give (Truth true))

-- `delete` of a reference to a property (11.4.1)
abbrev pub delete_member : Value → List ℕ → Act
delete_member (Object at) x = asking (λ s. has_own_host s at x) (λ b. choose b (raise CannotDelete) (unless (delete_at at x) (give (Truth true))))
delete_member (Text t) x = has_unit t x
delete_member base x = give (Truth true)

-- an own property that a literal makes
abbrev pub define_member : ObjId → List ℕ → Value → Act
define_member at x v = unless (define_at at x (whole_property v)) (give v)

-- a property that is none of the host's
abbrev pub has_property : Store → ObjId → List ℕ → Bool
has_property s at x = is_some (get_property s.heap.objects at.0 x)

abbrev pub has_named : Store → ObjId → List ℕ → Option HostName → Bool
has_named s at x None = has_property s at x
has_named s at x (Some n) = is_some (seen_at s at x n)

-- whether an object has a property or a host name, its own or inherited (8.12.6)
abbrev pub has_member : Store → ObjId → List ℕ → Bool
has_member s at x = has_named s at x (host_name x)
