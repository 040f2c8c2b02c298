-- The laws of two heaps that agree for a naming: each thing that a script does gives related answers and leaves heaps that
-- agree, for the same naming or one more pair.
use Rattle.std.specs.Prelude.{◌≡◌, ℕ, suc, ◌<◌, ◌≤◌, ◌^◌, Bool, false, true, List, Option, None, length, ◌∷◌}
use Rattle.std.specs.Map.{keys_of}
use Rattle.js_values.specs.declared.ids.EnvId.{EnvId}
use Rattle.js_values.specs.declared.ids.ObjId.{ObjId}
use Rattle.js_values.specs.declared.value.Value.{Value}
use Rattle.object_heap.specs.declared.object.Class.{Class}
use Rattle.object_heap.specs.declared.object.EventParts.{EventParts}
use Rattle.object_heap.specs.declared.property.Change.{Change}
use Rattle.object_heap.specs.declared.property.Prop.{Prop}
use Rattle.object_heap.specs.Chain.{can_put, get, get_property, object_at}
use Rattle.object_heap.specs.Environment.{Bound, environment_at, new_environment, no_environment, value_of}
use Rattle.object_heap.specs.Function.{with_function}
use Rattle.object_heap.specs.Heap.{Contents, IsFit, IsSound, add_property, close, define_own, delete, lookup, made, new_object, opened, prevent_extensions, put, set, set_dispatch, set_event}
use Rattle.object_heap.specs.Object.{is_list, no_object, Object, target_of}
use Rattle.object_heap.specs.Property.{own_property, same_value}
use Rattle.heap_relations.specs.Related.{ObjectsRel, through, turned, AttemptRel, ChangeRel, ClassRel, EventRel, Maybe, ObjectIds, ObjectRel, PropRel, ValueRel}
use Rattle.heap_relations.specs.Naming.{Agree, Assigned, Captured, CapturedRel, Constant, Copied, FoundRel, Frame, Free, In, is_reserved, Kept, Larger, Named, named, NameRel, Reaches, resolve, Round, scope_name, Slot, SlotRel, with_object, with_slot, World}

-- what is read of two objects that are named
pub record ReadsAgree (W : World) (h g : Contents) (k l : ℕ) : Type 0 where
  pub object : ObjectRel (named W) (object_at h.objects k) (object_at g.objects l)
  pub get_property : (name : List ℕ) → Maybe (PropRel (named W)) (get_property h.objects k name) (get_property g.objects l name)
  pub get : (name : List ℕ) → Maybe (ValueRel (named W)) (get h.objects k name) (get g.objects l name)
  pub own : (name : List ℕ) → Maybe (PropRel (named W)) (own_property (object_at h.objects k).props name) (own_property (object_at g.objects l).props name)
  pub keys : keys_of (object_at h.objects k).props ≡ keys_of (object_at g.objects l).props
  pub can_put : (name : List ℕ) → can_put h.objects k name ≡ can_put g.objects l name

-- what is tried on them: the same is thrown, and the heaps agree after it
pub record WritesAgree (W : World) (h g : Contents) (k l : ℕ) : Type 0 where
  pub put : (name : List ℕ) (v w : Value) → ValueRel (named W) v w → AttemptRel (Agree W) (put h k name v) (put g l name w)
  pub define_own : (name : List ℕ) (c d : Change) → ChangeRel (named W) c d → AttemptRel (Agree W) (define_own h k name c) (define_own g l name d)
  pub delete : (name : List ℕ) → AttemptRel (Agree W) (delete h k name) (delete g l name)
  pub prevent : AttemptRel (Agree W) (prevent_extensions h k) (prevent_extensions g l)
  pub add : (name : List ℕ) (p q : Prop) → PropRel (named W) p q → Agree W (add_property h k name p) (add_property g l name q)
  pub close : Agree W (close h k) (close g l)
  pub event : (p q : EventParts) → EventRel (named W) p q → Agree W (set_event h k p) (set_event g l q)
  pub dispatch : (sent : Bool) (t u c d : Option ObjId) (phase : ℕ) → Maybe (ObjectIds (named W)) t u → Maybe (ObjectIds (named W)) c d
      → Agree W (set_dispatch h k sent t c phase) (set_dispatch g l sent u d phase)

abbrev pub ObjectsAgree : Type 0
ObjectsAgree = (W : World) (h g : Contents) (k l : ℕ) → Agree W h g → Named W k l → ReadsAgree W h g k l × WritesAgree W h g k l

-- two values are the same exactly where their counterparts are
abbrev pub SameAgree : Type 0
SameAgree = (W : World) (h g : Contents) (v w x y : Value) → Agree W h g → ValueRel (named W) v x → ValueRel (named W) w y → same_value v w ≡ same_value x y

-- a pair of new objects joins the naming
abbrev pub NewObjectsAgree : Type 0
NewObjectsAgree =
    (W : World) (h g : Contents) (c d : Class) (p q : Option ObjId) → Agree W h g → ClassRel (named W) c d → Maybe (ObjectIds (named W)) p q
    → Agree (with_object W (length h.objects) (length g.objects)) (made h (new_object c p)) (made g (new_object d q))

-- so does a pair with any properties, which may name the pair itself; prototypes and targets are there before
abbrev pub MadeAgree : Type 0
MadeAgree =
    (W : World) (h g : Contents) (o p : Object) → Agree W h g → IsFit o → IsFit p → ObjectRel (named (with_object W (length h.objects) (length g.objects))) o p
    → Maybe (ObjectIds (named W)) o.proto p.proto → Maybe (ObjectIds (named W)) (target_of o.class) (target_of p.class)
    → Agree (with_object W (length h.objects) (length g.objects)) (made h o) (made g p)

-- and so do two functions and their prototypes, which name each other
abbrev pub FunctionsAgree : Type 0
FunctionsAgree =
    (W : World) (h g : Contents) (c d : Class) (p q : Option ObjId) (formals : ℕ) (above over : Option ObjId)
    → Agree W h g → ClassRel (named W) c d → is_list c ≡ false → Maybe (ObjectIds (named W)) p q → Maybe (ObjectIds (named W)) above over
    → Agree (with_object (with_object W (length h.objects) (length g.objects)) (suc (length h.objects)) (suc (length g.objects)))
    (with_function h c p formals above) (with_function g d q formals over)

-- a name of the page, from environments that are linked. Where a scope object has it, the right reads there what the variable
-- is, and assigns it there.
pub record NamesAgree (W : World) (h g : Contents) (s : Slot) (x : List ℕ) : Type 0 where
  pub found : FoundRel W g.objects (lookup g.environments s.two) x (resolve (s.frame ∷ s.round) x) (lookup h.environments s.one x) (lookup g.environments s.two x)
  pub read : s.frame.keeps x ≡ Captured → CapturedRel W h g s x
  pub assign : s.frame.keeps x ≡ Free → (v w : Value) → ValueRel (named W) v w → Agree W (set h s.one x v) (set g s.two x w)
  pub set_constant : s.frame.keeps x ≡ Constant → (v w : Value) → ValueRel (named W) v w → Agree W (set h s.one x v) (set g s.two x w)
  pub assign_captured : s.frame.keeps x ≡ Captured → (v w : Value) → ValueRel (named W) v w → Assigned W (set h s.one x v) (put g s.place x w)

abbrev pub EnvironmentsAgree : Type 0
EnvironmentsAgree =
    (W : World) (h g : Contents) (s : Slot) (x : List ℕ) → Agree W h g → In s W.slots → is_reserved W.opens x ≡ false → NamesAgree W h g s x

-- a pair of new environments joins the naming, after the right has run alone from g to i and has changed nothing that is named
abbrev pub EntriesAgree : Type 0
EntriesAgree =
    (W : World) (h g i : Contents) (outer : Option EnvId) (names : Bound) (s : Slot) → Agree W h g → s.one ≡ length h.environments → length g.environments ≤ s.two
    → Reaches no_object g.objects i.objects → Reaches no_environment g.environments i.environments → IsSound i → s.two < length i.environments
    → Round W s.round outer (environment_at i.environments s.two).outer
    → SlotRel (with_slot W s) s (new_environment outer names) (environment_at i.environments s.two) (object_at i.objects s.place)
    → (s.frame.scoped ≡ true → (length g.objects ≤ s.place) × (s.place < length i.objects))
    → Agree (with_slot W s) (opened h outer names) i

-- the slot of the next environments, where there is no scope object
abbrev pub free_slot : Contents → Contents → (List ℕ → Kept) → List Frame → (List ℕ → Value) → Option (List ℕ) → ℕ → Slot
free_slot h g keeps round known pending born = record { one = length h.environments; two = length g.environments; frame = record { keeps = keeps; scoped = false; number = 0 }; round = round; place = 0; known = known; pending = pending; born = born }

-- two environments are opened, and on the right no variable is in a scope object
abbrev pub OpenedAgree : Type 0
OpenedAgree =
    (W : World) (h g : Contents) (outer around : Option EnvId) (names others : Bound) (keeps : List ℕ → Kept) (round : List Frame) (known : List ℕ → Value)
    (pending : Option (List ℕ)) (born : ℕ) → Agree W h g → Round W round outer around
    → ((x : List ℕ) → is_reserved W.opens x ≡ false → (p : Option Prop) → NameRel (named W) false (known x) (keeps x) (value_of names x) (value_of others x) p)
    → ((x : List ℕ) → keeps x ≡ Copied → ⊥)
    → (W.opens ≡ true → (k : ℕ) → k < 2 ^ 64 → value_of others (scope_name k) ≡ None)
    → Agree (with_slot W (free_slot h g keeps round known pending born)) (opened h outer names) (opened g around others)

-- what is related stays so for a larger naming
abbrev pub RelatedStay : Type 0
RelatedStay =
    (V W : World) → Larger V W
    → ((v w : Value) → ValueRel (named V) v w → ValueRel (named W) v w) × ((o p : Object) → ObjectRel (named V) o p → ObjectRel (named W) o p)

-- heaps that agree by way of a third one agree, and the other way round
abbrev pub JoinsAgree : Type 0
JoinsAgree =
    (V W : World) (os ps qs : List Object) → ObjectsRel (named V) os ps → ObjectsRel (named W) ps qs
    → ObjectsRel (through (named V) (named W)) os qs × ObjectsRel (turned (named V)) ps os

-- what either side makes alone does not count, as long as all that was there stays
abbrev pub OthersDoNotCount : Type 0
OthersDoNotCount =
    (W : World) (h g i j : Contents) → Agree W h g → Reaches no_object h.objects i.objects → Reaches no_object g.objects j.objects
    → Reaches no_environment h.environments i.environments → Reaches no_environment g.environments j.environments → IsSound i → IsSound j → Agree W i j
