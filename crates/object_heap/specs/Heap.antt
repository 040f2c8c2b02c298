-- The heap: all objects and all environments, each a list by age, and what each call does to it.
use Rattle.std.specs.Prelude.{ℕ, zero, suc, Bool, true, false, List, [], ◌∷◌, ◌++◌, Option, Some, None, length, is_some, slice_set, ◌||◌, if◌then◌else◌}
use Rattle.js_values.specs.declared.ids.EnvId.{EnvId}
use Rattle.js_values.specs.declared.ids.ObjId.{ObjId}
use Rattle.js_values.specs.declared.value.Value.{Value}
use Rattle.object_heap.specs.declared.object.Class.{Class}
use Rattle.object_heap.specs.declared.object.EventParts.{EventParts}
use Rattle.object_heap.specs.declared.property.Change.{Change}
use Rattle.object_heap.specs.declared.property.Prop.{Prop}
use Rattle.object_heap.specs.Array.{AreProper, IsProper}
use Rattle.object_heap.specs.Attempt.{Attempt}
use Rattle.object_heap.specs.Chain as chain
use Rattle.object_heap.specs.Chain.{AreOlder, HaveOlderTargets, object_at}
use Rattle.object_heap.specs.Define as object
use Rattle.object_heap.specs.Define.{length_name, number}
use Rattle.object_heap.specs.Environment.{AreInside, Bound, Environment, environment_at, inside, new_environment, value_of, with_bound}
use Rattle.object_heap.specs.Object.{is_list, Object, settled, whole_object, with_closed, with_dispatch, with_event, with_props}
use Rattle.object_heap.specs.Property.{HasDistinctNames, Props, own_property}

-- an id is a place in its list
pub record Contents : Type 0 where
  pub objects : List Object
  pub environments : List Environment

-- nothing yet
abbrev pub empty : Contents
empty = record { objects = []; environments = [] }

abbrev pub with_objects : Contents → List Object → Contents
with_objects h objects = record { objects = objects; environments = h.environments }

abbrev pub with_environments : Contents → List Environment → Contents
with_environments h environments = record { objects = h.objects; environments = environments }

-- the object at the place becomes another; nothing changes where there is none
abbrev pub with_object : Contents → ℕ → Object → Contents
with_object h k o = with_objects h (slice_set h.objects k o)

-- ---- what is made

-- an array has its length from the start (15.4.2)
abbrev pub first_props : Class → Props
first_props class =
    if is_list class then (length_name, record { value = number 0; writable = true; enumerable = false; configurable = false }) ∷ []
    else []

abbrev pub new_object : Class → Option ObjId → Object
new_object class proto = whole_object class proto (first_props class)

-- one more object, the youngest
abbrev pub with_new_object : Contents → Object → Contents
with_new_object h o = with_objects h (h.objects ++ o ∷ [])

-- the object is made: a prototype or target that is not there counts as none
abbrev pub made : Contents → Object → Contents
made h o = with_new_object h (settled (length h.objects) o)

-- one more environment, the youngest
abbrev pub with_new_environment : Contents → Environment → Contents
with_new_environment h e = with_environments h (h.environments ++ e ∷ [])

-- the environment is made: one round it that is not there counts as none
abbrev pub opened : Contents → Option EnvId → Bound → Contents
opened h outer names = with_new_environment h (new_environment (inside (length h.environments) outer) names)

-- ---- what is done to an object

-- the heap after something was tried on the object at the place
abbrev pub at_object : Contents → ℕ → Attempt Object → Attempt Contents
at_object h k attempt = record { after = with_object h k attempt.after; thrown = attempt.thrown }

-- [[Put]] (8.12.5)
unfoldable pub put : Contents → ℕ → List ℕ → Value → Attempt Contents
put h k name v = at_object h k (object.put_own (chain.can_put h.objects k name) (object_at h.objects k) name v)

-- [[DefineOwnProperty]] (8.12.9 and 15.4.5.1)
unfoldable pub define_own : Contents → ℕ → List ℕ → Change → Attempt Contents
define_own h k name change = at_object h k (object.define_own (object_at h.objects k) name change)

-- [[Delete]] (8.12.7)
unfoldable pub delete : Contents → ℕ → List ℕ → Attempt Contents
delete h k name = at_object h k (object.delete_own (object_at h.objects k) name)

unfoldable pub prevent_extensions : Contents → ℕ → Attempt Contents
prevent_extensions h k = at_object h k (object.prevented (object_at h.objects k))

-- the property is the object's last; an array, and an object that has one of the name, stays as it is
abbrev pub with_added : Object → List ℕ → Prop → Object
with_added o name p =
    if is_list o.class || is_some (own_property o.props name) then o else with_props o (o.props ++ (name, p) ∷ [])

unfoldable pub add_property : Contents → ℕ → List ℕ → Prop → Contents
add_property h k name p = with_object h k (with_added (object_at h.objects k) name p)

abbrev pub close : Contents → ℕ → Contents
close h k = with_object h k (with_closed (object_at h.objects k))

abbrev pub set_event : Contents → ℕ → EventParts → Contents
set_event h k parts = with_object h k (with_event (object_at h.objects k) parts)

abbrev pub set_dispatch : Contents → ℕ → Bool → Option ObjId → Option ObjId → ℕ → Contents
set_dispatch h k sent target current phase = with_object h k (with_dispatch (object_at h.objects k) sent target current phase)

-- ---- names

-- the value here, with the place, or else what is found outwards, if there is an environment round it
abbrev pub first_bound : ℕ → Option Value → Option EnvId → (ℕ → Option (EnvId × Value)) → Option (EnvId × Value)
first_bound k (Some v) outer up = Some (record { 0 = k }, v)
first_bound k None None up = None
first_bound k None (Some e) up = up e.0

-- where the name is bound in the first so many environments outwards
abbrev pub bound_within : List Environment → ℕ → ℕ → List ℕ → Option (EnvId × Value)
bound_within environments zero k name = None
bound_within environments (suc n) k name =
    first_bound k (value_of (environment_at environments k).names name) (environment_at environments k).outer (λ e. bound_within environments n e name)

-- where the name is bound from this environment outwards, with its value (10.2.2.1)
unfoldable pub lookup : List Environment → ℕ → List ℕ → Option (EnvId × Value)
lookup environments k name = bound_within environments (suc k) k name

-- the same from an environment that there may be
abbrev pub look_in : List Environment → Option EnvId → List ℕ → Option (EnvId × Value)
look_in environments None name = None
look_in environments (Some e) name = lookup environments e.0 name

-- the name of the environment takes the value (10.2.1.1.3); nothing changes where it is not there
unfoldable pub set : Contents → ℕ → List ℕ → Value → Contents
set h k name v =
    with_environments h (slice_set h.environments k (with_bound (environment_at h.environments k) name v))

-- ---- what holds of each heap

-- an object that may be made: an array is one, and no two properties have the same name
pub record IsFit (o : Object) : Type 0 where
  pub array : IsProper o
  pub names : HasDistinctNames o.props

-- prototypes, targets and outer environments are older, arrays are arrays, and names are distinct
pub record IsSound (h : Contents) : Type 0 where
  pub prototypes : AreOlder h.objects
  pub targets : HaveOlderTargets h.objects
  pub environments : AreInside h.environments
  pub arrays : AreProper h.objects
  pub names : (k : ℕ) → HasDistinctNames (object_at h.objects k).props
