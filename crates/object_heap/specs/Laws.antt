-- What the calls on the heap keep, in the language's own words.
use Rattle.std.specs.Prelude.{◌≡◌, ◌↔◌, ◌⊎◌, ℕ, ◌<◌, ◌≤◌, Bool, IsTrue, true, false, List, [], ◌∷◌, Option, Some, None, IsSome, length, bytes_eq}
use Rattle.std.specs.Fmt.{decimal}
use Rattle.std.specs.List.{list_all}
use Rattle.js_values.specs.declared.ids.EnvId.{EnvId}
use Rattle.js_values.specs.declared.value.Value.{Value}
use Rattle.object_heap.specs.declared.object.Class.{Class}
use Rattle.object_heap.specs.declared.object.EventParts.{EventParts}
use Rattle.object_heap.specs.Object.{changed_event, is_event, is_list, Object, with_class}
use Rattle.object_heap.specs.declared.property.Change.{Change}
use Rattle.object_heap.specs.declared.property.Prop.{Prop}
use Rattle.object_heap.specs.Chain.{first_found, found, get, get_property, object_at}
use Rattle.object_heap.specs.Define as object
use Rattle.object_heap.specs.Define.{array_length, length_name}
use Rattle.object_heap.specs.Environment.{Bound, environment_at, value_of}
use Rattle.object_heap.specs.Heap.{Contents, IsFit, IsSound, add_property, close, define_own, delete, first_bound, lookup, made, opened, prevent_extensions, put, set, with_object}
use Rattle.object_heap.specs.Index.{index_end, index_of}
use Rattle.object_heap.specs.Property.{own_property}

-- what is done to a heap: to an object by its place, or an environment
pub data Step : Type 0 where
  puts : ℕ → List ℕ → Value → Step
  defines : ℕ → List ℕ → Change → Step
  deletes : ℕ → List ℕ → Step
  prevents : ℕ → Step
  adds : ℕ → List ℕ → Prop → Step
  closes : ℕ → Step
  gives_parts : ℕ → (EventParts → EventParts) → Step
  makes : (o : Object) → IsFit o → Step
  opens : Option EnvId → Bound → Step
  binds : ℕ → List ℕ → Value → Step

abbrev pub after_step : Contents → Step → Contents
after_step h (puts k name v) = (put h k name v).after
after_step h (defines k name change) = (define_own h k name change).after
after_step h (deletes k name) = (delete h k name).after
after_step h (prevents k) = (prevent_extensions h k).after
after_step h (adds k name p) = add_property h k name p
after_step h (closes k) = close h k
after_step h (gives_parts k f) = with_object h k (with_class (object_at h.objects k) (changed_event f (object_at h.objects k).class))
after_step h (makes o fit) = made h o
after_step h (opens outer names) = opened h outer names
after_step h (binds k name v) = set h k name v

-- the object that a step may change
abbrev pub object_of : Step → Option ℕ
object_of (puts k name v) = Some k
object_of (defines k name change) = Some k
object_of (deletes k name) = Some k
object_of (prevents k) = Some k
object_of (adds k name p) = Some k
object_of (closes k) = Some k
object_of (gives_parts k f) = Some k
object_of s = None

-- the environment that a step may change
abbrev pub environment_of : Step → Option ℕ
environment_of (binds k name v) = Some k
environment_of s = None

-- the heap after steps, also those that throw
abbrev pub after_steps : Contents → List Step → Contents
after_steps h [] = h
after_steps h (s ∷ ss) = after_steps (after_step h s) ss

-- what was put is got
abbrev pub PutThenGet : Type 0
PutThenGet =
    (h : Contents) (k : ℕ) (name : List ℕ) (v : Value) → k < length h.objects → (put h k name v).thrown ≡ None
    → get (put h k name v).after.objects k name ≡ Some v

-- a property stays where another one is put, defined or deleted that is no array's length
abbrev pub OthersStay : Type 0
OthersStay =
    (o : Object) (name other : List ℕ) → bytes_eq other name ≡ false → bytes_eq other length_name ≡ false → bytes_eq name length_name ≡ false
    → ((can : Bool) (v : Value) → own_property (object.put_own can o name v).after.props other ≡ own_property o.props other)
    × ((change : Change) → own_property (object.define_own o name change).after.props other ≡ own_property o.props other)
    × (own_property (object.delete_own o name).after.props other ≡ own_property o.props other)

-- a name is an array index exactly where it is what a number below 2^32 - 1 is written as (15.4)
abbrev pub IndicesAreDecimal : Type 0
IndicesAreDecimal = (name : List ℕ) (i : ℕ) → (index_of name ≡ Some i) ↔ ((name ≡ decimal i) × (i < index_end))

-- what is seen up the prototypes of an object is what is seen in it, or else up from its prototype, whatever is looked for
abbrev pub FoundOn : Type 0 → Type 0
FoundOn A =
    (see : Object → Option A) (h : Contents) (k : ℕ) → IsSound h
    → found see h.objects k ≡ first_found (see (object_at h.objects k)) (object_at h.objects k).proto (λ q. found see h.objects q)

-- [[GetProperty]] is an object's own property, or else its prototype's (8.12.2), and a name is bound in an environment, or
-- else outwards (10.2.2.1)
abbrev pub LooksOn : Type 0
LooksOn =
    (h : Contents) (k : ℕ) (name : List ℕ) → IsSound h
    → (get_property h.objects k name
    ≡ first_found (own_property (object_at h.objects k).props name) (object_at h.objects k).proto (λ q. get_property h.objects q name))
    × (lookup h.environments k name
    ≡ first_bound k (value_of (environment_at h.environments k).names name) (environment_at h.environments k).outer (λ q. lookup h.environments q name))

-- a heap stays sound
abbrev pub StaysSound : Type 0
StaysSound = (h : Contents) (steps : List Step) → IsSound h → IsSound (after_steps h steps)

-- the same class, but for an event's parts
abbrev pub IsSameKind : Class → Class → Type 0
IsSameKind c d = (c ≡ d) ⊎ (IsTrue (is_event c) × IsTrue (is_event d))

-- an old object keeps its prototype, and its class but for an event's parts
abbrev pub KeepsKinds : Type 0
KeepsKinds =
    (h : Contents) (steps : List Step) (k : ℕ) → k < length h.objects
    → IsSameKind (object_at (after_steps h steps).objects k).class (object_at h.objects k).class
    × ((object_at (after_steps h steps).objects k).proto ≡ (object_at h.objects k).proto)

-- nothing is ever lost
abbrev pub NeverFewer : Type 0
NeverFewer =
    (h : Contents) (steps : List Step)
    → (length h.objects ≤ length (after_steps h steps).objects) × (length h.environments ≤ length (after_steps h steps).environments)

-- of the objects and environments that are there only the one of the step changes
abbrev pub OnlyThere : Type 0
OnlyThere =
    (h : Contents) (s : Step) (k : ℕ)
    → (k < length h.objects → (object_of s ≡ Some k → ⊥) → object_at (after_step h s).objects k ≡ object_at h.objects k)
    × (k < length h.environments → (environment_of s ≡ Some k → ⊥) → environment_at (after_step h s).environments k ≡ environment_at h.environments k)

-- the length of an array is above the index of each element, after any steps
abbrev pub LengthIsAbove : Type 0
LengthIsAbove =
    (h : Contents) (steps : List Step) (k : ℕ) (name : List ℕ) (i : ℕ) → IsSound h
    → let o = object_at (after_steps h steps).objects k in
    IsTrue (is_list o.class) → index_of name ≡ Some i → IsSome (own_property o.props name) → i < array_length o

-- the object gets no new properties, and none that it has may be written or configured (15.2.3.9)
pub record IsFrozen (o : Object) : Type 0 where
  pub extensible : o.extensible ≡ false
  pub configurable : (name : List ℕ) (p : Prop) → own_property o.props name ≡ Some p → p.configurable ≡ false
  pub writable : (name : List ℕ) (p : Prop) → own_property o.props name ≡ Some p → p.writable ≡ false

-- what a script can do, of which the others are no part
abbrev pub is_tried : Step → Bool
is_tried (adds k name p) = false
is_tried (closes k) = false
is_tried (gives_parts k f) = false
is_tried s = true

-- a frozen object never changes, whatever a script does
abbrev pub FrozenStays : Type 0
FrozenStays =
    (h : Contents) (steps : List Step) (k : ℕ) → k < length h.objects → list_all is_tried steps ≡ true → IsFrozen (object_at h.objects k)
    → object_at (after_steps h steps).objects k ≡ object_at h.objects k
