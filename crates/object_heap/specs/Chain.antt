-- Chains of prototypes (ECMA-262 5.1 sections 8.12.2 to 8.12.4), on the list of all objects by age.
use Rattle.std.specs.Prelude.{ℕ, zero, suc, ◌<◌, Bool, List, Option, Some, None, ◌&&◌, slice_index_or}
use Rattle.std.specs.Option.{ForSome, option_map}
use Rattle.js_values.specs.declared.ids.ObjId.{ObjId}
use Rattle.js_values.specs.declared.value.Value.{Value}
use Rattle.object_heap.specs.declared.property.Prop.{Prop}
use Rattle.object_heap.specs.Object.{no_object, Object, target_of}
use Rattle.object_heap.specs.Property.{own_property}

-- the object at the place
abbrev pub object_at : List Object → ℕ → Object
object_at objects k = slice_index_or objects k no_object

-- each prototype is older than what has it
abbrev pub AreOlder : List Object → Type 0
AreOlder objects = (k : ℕ) → ForSome (object_at objects k).proto (λ p. p.0 < k)

-- and so is what a bound function calls
abbrev pub HaveOlderTargets : List Object → Type 0
HaveOlderTargets objects = (k : ℕ) → ForSome (target_of (object_at objects k).class) (λ t. t.0 < k)

-- what is seen in an object, or else what is found up from its prototype, if there is one
abbrev pub first_found : {A : Type 0} → Option A → Option ObjId → (ℕ → Option A) → Option A
first_found (Some a) proto up = Some a
first_found None None up = None
first_found None (Some q) up = up q.0

-- what is seen in the first so many objects of the chain
abbrev pub found_within : {A : Type 0} → (Object → Option A) → List Object → ℕ → ℕ → Option A
found_within see objects zero k = None
found_within see objects (suc n) k =
    first_found (see (object_at objects k)) (object_at objects k).proto (λ q. found_within see objects n q)

-- what is seen up the chain. A chain that grows older has no more objects than the age of its first, and one.
abbrev pub found : {A : Type 0} → (Object → Option A) → List Object → ℕ → Option A
found see objects k = found_within see objects (suc k) k

-- [[GetProperty]] (8.12.2)
unfoldable pub get_property : List Object → ℕ → List ℕ → Option Prop
get_property objects k name = found (λ o. own_property o.props name) objects k

-- [[Get]] (8.12.3): none where no object of the chain has the property
abbrev pub get : List Object → ℕ → List ℕ → Option Value
get objects k name = option_map (λ p. p.value) (get_property objects k name)

-- what the object has from its prototype
abbrev pub inherited_by : List Object → Option ObjId → List ℕ → Option Prop
inherited_by objects None name = None
inherited_by objects (Some q) name = get_property objects q.0 name

-- [[CanPut]] (8.12.4), where the object is extensible or not, has this own property and inherits that one
abbrev pub may_put : Bool → Option Prop → Option Prop → Bool
may_put extensible (Some p) inherited = p.writable
may_put extensible None (Some p) = extensible && p.writable
may_put extensible None None = extensible

unfoldable pub can_put : List Object → ℕ → List ℕ → Bool
can_put objects k name =
    may_put (object_at objects k).extensible (own_property (object_at objects k).props name) (inherited_by objects (object_at objects k).proto name)
