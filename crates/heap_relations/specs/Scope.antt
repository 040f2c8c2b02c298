-- Functions with an own name, and how the right enters a function that has a scope object: a new environment, an object literal with the captured variables,
-- and a variable that holds it. The literal defines each captured variable at once: a put to a name that the object does not
-- have yet would ask its prototypes, and these may refuse (8.12.4).
use Rattle.std.specs.Prelude.{◌≡◌, ℕ, suc, ◌<◌, ◌^◌, true, false, IsTrue, bytes_eq, nat_eq, List, [], ◌∷◌, ◌++◌, Option, Some, None, length, if◌then◌else◌}
use Rattle.js_core.specs.Tree.{Code}
use Rattle.js_values.specs.declared.ids.EnvId.{EnvId}
use Rattle.js_values.specs.declared.ids.ObjId.{ObjId}
use Rattle.js_values.specs.declared.value.Value.{Value}
use Rattle.js_values.specs.declared.value.Value.TheVariants as value
use Rattle.object_heap.specs.declared.object.Class.TheVariants as class
use Rattle.object_heap.specs.declared.property.Prop.{Prop}
use Rattle.object_heap.specs.Define.{whole_property}
use Rattle.object_heap.specs.Environment.{Bound, value_of}
use Rattle.object_heap.specs.Function.{with_function}
use Rattle.object_heap.specs.Heap.{Contents, define_own, made, new_object, opened, set}
use Rattle.object_heap.specs.Property.{Props, own_property}
use Rattle.heap_relations.specs.Related.{Links, Maybe, ObjectIds, ValueRel}
use Rattle.heap_relations.specs.Naming.{are_below, Copied, OwnName, Absent, Agree, Captured, Frame, Free, is_reserved, is_scope_name, Kept, named, Round, scope_name, Sealed, Slot, with_object, with_slot, World}

-- what a literal makes of its object, property by property (11.1.5)
abbrev pub filled : Contents → ℕ → Bound → Contents
filled g k [] = g
filled g k (x ∷ xs) = filled (define_own g k x.0 (whole_property x.1)).after k xs

-- and none of it is refused
abbrev pub IsFillable : Contents → ℕ → Bound → Type 0
IsFillable g k [] = Unit {0}
IsFillable g k (x ∷ xs) = ((define_own g k x.0 (whole_property x.1)).thrown ≡ None) × IsFillable (define_own g k x.0 (whole_property x.1)).after k xs

-- an environment with the names, and the literal in its variable
abbrev pub entered : Contents → Option EnvId → Bound → Option ObjId → ℕ → Bound → Contents
entered g outer names proto number fields =
    set (filled (made (opened g outer names) (new_object class.Plain proto)) (length g.objects) fields) (length g.environments) (scope_name number)
    (value.Object (record { 0 = length g.objects }))

abbrev pub plain_prop : Value → Prop
plain_prop v = record { value = v; writable = true; enumerable = true; configurable = true }

-- no name is there already, or comes twice
abbrev pub AreFresh : Props → Bound → Type 0
AreFresh props [] = Unit {0}
AreFresh props (x ∷ xs) = (own_property props x.0 ≡ None) × AreFresh (props ++ (x.0, plain_prop x.1) ∷ []) xs

-- a name on the left, on the right, and in the literal
pub data EntryRel (L : Links) (known : Value) : Kept → Option Value → Option Value → Option Value → Type 0 where
  absent : {o : Option Value} → EntryRel L known Absent None None o
  free : {v w : Value} {o : Option Value} → ValueRel L v w → EntryRel L known Free (Some v) (Some w) o
  captured : {v u : Value} {any : Option Value} → ValueRel L v u → EntryRel L known Captured (Some v) any (Some u)
  copied : {u : Value} {any : Option Value} → ValueRel L known u → EntryRel L known Copied None any (Some u)

-- the slot of the two environments
abbrev pub scoped_slot : Contents → Contents → (List ℕ → Kept) → ℕ → List Frame → (List ℕ → Value) → Slot
scoped_slot h g keeps number round known = record { one = length h.environments; two = length g.environments; frame = record { keeps = keeps; scoped = true; number = number }; round = round; place = length g.objects; known = known; pending = None; born = length h.objects }

-- a function or a catch clause is entered on both sides, on the right with a scope object, whose variable has another value until
-- then: undefined, or what was caught
abbrev pub ScopesAgree : Type 0
ScopesAgree =
    (W : World) (h g : Contents) (outer around : Option EnvId) (names others : Bound) (proto : Option ObjId) (keeps : List ℕ → Kept) (number : ℕ) (round : List Frame) (fields : Bound) (old : Value) (known : List ℕ → Value)
    → Agree W h g → W.opens ≡ true → Round W round outer around → number < 2 ^ 64 → are_below number round ≡ true → ((q : ObjId) → proto ≡ Some q → q.0 < length g.objects) → AreFresh [] fields
    → ((x : List ℕ) → is_scope_name x ≡ false → EntryRel (named W) (known x) (keeps x) (value_of names x) (value_of others x) (value_of fields x))
    → ((x : List ℕ) → keeps x ≡ Copied → OwnName W (scoped_slot h g keeps number round known) x outer)
    → ((k : ℕ) → k < 2 ^ 64 → value_of others (scope_name k) ≡ (if nat_eq k number then Some old else None))
    → Agree (with_slot W (scoped_slot h g keeps number round known)) (opened h outer names) (entered g around others proto number fields)

-- ---- own names

-- the environment round a function expression that has a name: it binds the name alone, and nothing assigns it
abbrev pub own_frame : List ℕ → Frame
own_frame x = record { keeps = λ y. if bytes_eq y x then Sealed else Absent; scoped = false; number = 0 }

-- the slot of these environments of the next functions
abbrev pub own_slot : Contents → Contents → List ℕ → List Frame → Slot
own_slot h g x round =
    record { one = length h.environments; two = length g.environments; frame = own_frame x; round = round; place = 0; known = λ y. value.Object (record { 0 = length h.objects }); pending = None; born = length h.objects }

-- the next function, in an environment that binds its name
abbrev pub with_own_function : Contents → Option EnvId → List ℕ → Code → Option ObjId → ℕ → Option ObjId → Contents
with_own_function h outer x c proto formals above =
    with_function (opened h outer ((x, value.Object (record { 0 = length h.objects })) ∷ [])) (class.Page c (Some (record { 0 = length h.environments }))) proto formals above

abbrev pub with_own : World → Contents → Contents → List ℕ → List Frame → World
with_own W h g x round =
    with_slot (with_object (with_object W (length h.objects) (length g.objects)) (suc (length h.objects)) (suc (length g.objects))) (own_slot h g x round)

-- two functions, their prototypes and the environments of their own names join the naming at once
abbrev pub OwnFunctionsAgree : Type 0
OwnFunctionsAgree =
    (W : World) (h g : Contents) (outer around : Option EnvId) (x : List ℕ) (round : List Frame) (number : ℕ) (c d : Code) (p q : Option ObjId) (formals : ℕ) (above over : Option ObjId)
    → Agree W h g → Round W round outer around → is_reserved W.opens x ≡ false
    → d ≡ W.opened number (own_frame x ∷ round) c → IsTrue (W.fits number (own_frame x ∷ round) c)
    → Maybe (ObjectIds (named W)) p q → Maybe (ObjectIds (named W)) above over
    → Agree (with_own W h g x round) (with_own_function h outer x c p formals above) (with_own_function g around x d q formals over)
