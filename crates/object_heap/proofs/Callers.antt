-- What other crates cite of the heap's proofs.
use Rattle.std.proofs.Common.{◌≡◌, refl, ap, ◌∙◌, ℕ, ◌+◌, ◌<◌, ◌≤◌, Bool, true, false, List, [], ◌∷◌, ◌++◌, Option, Some, None, length, map, slice_set, nat_lt, bytes_eq}
use Rattle.std.proofs.Math.ListN.{get_or-append}
use Rattle.std.proofs.Math.Seq.{get_or-append_seam}
use Rattle.std.proofs.lemmas.Bool.{cond-false, cond-true, lt-ltb}
use Rattle.std.proofs.lemmas.List.{get_or-set_same, get_or-set_other}
use Rattle.std.specs.Option.{ForSome}
use Rattle.js_values.specs.declared.ids.EnvId.{EnvId}
use Rattle.js_values.specs.declared.ids.ObjId.{ObjId}
use Rattle.js_values.specs.declared.throw.Throw.TheVariants.{CannotDefine, CannotDelete, CannotSet}
use Rattle.js_values.specs.declared.value.Value.{Value}
use Rattle.object_heap.specs.declared.object.Class.{Class}
use Rattle.object_heap.specs.declared.object.Class.TheVariants.{Bound as BoundFunction}
use Rattle.object_heap.specs.declared.object.EventParts.{EventParts}
use Rattle.object_heap.specs.declared.property.Change.{Change}
use Rattle.object_heap.specs.declared.property.Prop.{Prop}
use Rattle.object_heap.specs.Attempt.{done, throws}
use Rattle.object_heap.specs.Chain.{AreOlder, first_found, found, get_property, object_at}
use Rattle.object_heap.specs.Define as object
use Rattle.object_heap.specs.Define.{array_length, define_ordinary, defined_over, grown, has_writable_length, is_closed_at, length_name, with_length}
use Rattle.object_heap.specs.Environment.{AreInside, Bound, Environment, environment_at, inside, no_environment, value_of, with_bound, with_value_of}
use Rattle.object_heap.specs.Heap.{Contents, IsFit, IsSound, add_property, at_object, close, define_own, delete, empty, first_bound, lookup, made, new_object, opened, prevent_extensions, put, set, set_dispatch, set_event, with_added, with_new_object, with_object}
use Rattle.object_heap.specs.Index.{index_of}
use Rattle.object_heap.specs.Laws.{KeepsKinds, NeverFewer, OnlyThere, PutThenGet, StaysSound, adds, closes, defines, deletes, gives_parts, prevents, puts}
use Rattle.object_heap.specs.Object.{class_at, dispatched, is_list, is_window, no_object, Object, older, settled, target_of, whole_object, with_props}
use Rattle.object_heap.specs.Rest.{rest_down, rested}
use Rattle.object_heap.specs.Property.{HasDistinctNames, Props, created, own_property, with_property, without_property}
use Rattle.object_heap.proofs.Chains as chains
use Rattle.object_heap.proofs.Distinct as distinct
use Rattle.object_heap.proofs.Got as got
use Rattle.object_heap.proofs.Lists as lists
use Rattle.object_heap.proofs.Missing as missing
use Rattle.object_heap.proofs.Resting as resting
use Rattle.object_heap.proofs.Scopes as scopes
use Rattle.object_heap.proofs.Sound as sound
use Rattle.object_heap.proofs.Steps as steps

-- ---- objects that may be made

pub new_fit : (class : Class) (proto : Option ObjId) → IsFit (new_object class proto)
new_fit = sound.new_fit

-- an object that is no array, with distinct names
pub ordinary_fit : (class : Class) (proto : Option ObjId) (props : Props) → is_list class ≡ false → HasDistinctNames props → IsFit (whole_object class proto props)
ordinary_fit = sound.ordinary_fit

pub no_names : HasDistinctNames []
no_names = distinct.no_name

pub one_name : (x : List ℕ) (p : Prop) → HasDistinctNames ((x, p) ∷ [])
one_name = distinct.one_name

pub two_names : (x : List ℕ) (p : Prop) (y : List ℕ) (q : Prop) → bytes_eq x y ≡ false → HasDistinctNames ((x, p) ∷ (y, q) ∷ [])
two_names = distinct.two_names

-- one name more
pub names_last : (props : Props) (name : List ℕ) (p : Prop) → own_property props name ≡ None → HasDistinctNames props → HasDistinctNames (props ++ (name, p) ∷ [])
names_last = distinct.distinct_last

-- where its prototype and its target are older, an object is made as it is
pub settled_same : (k : ℕ) (o : Object) → ForSome o.proto (λ p. p.0 < k) → ForSome (target_of o.class) (λ t. t.0 < k) → settled k o ≡ o
settled_same k o proto target = (λ j. record { class = same_class o.class target j; proto = same_proto o.proto proto j; extensible = o.extensible; closed = o.closed; props = o.props })
  where
    same_proto : (p : Option ObjId) → ForSome p (λ q. q.0 < k) → older k p ≡ p
    same_proto None h = refl
    same_proto (Some q) h = rw (lt-ltb q.0 k (h q refl)) refl

    same_class : (c : Class) → ForSome (target_of c) (λ t. t.0 < k) → class_at k c ≡ c
    same_class (BoundFunction t this args) h = rw (lt-ltb t.0 k (h t refl)) refl
    same_class c h = refl

pub inside_same : (k : ℕ) (outer : Option EnvId) → ForSome outer (λ e. e.0 < k) → inside k outer ≡ outer
inside_same k None h = refl
inside_same k (Some e) h = rw (lt-ltb e.0 k (h e refl)) refl

-- ---- a heap stays sound

pub sound_empty : IsSound empty
sound_empty = sound.sound_empty

pub sound_steps : StaysSound
sound_steps = steps.stays_sound

pub kinds_steps : KeepsKinds
kinds_steps = steps.keeps_kinds

pub fewer_steps : NeverFewer
fewer_steps = steps.never_fewer

pub only_there : OnlyThere
only_there = steps.only_there

module _ (h : Contents) (s : IsSound h) where
  pub sound_put : (k : ℕ) (name : List ℕ) (v : Value) → IsSound (put h k name v).after
  sound_put k name v = steps.stays_sound h (puts k name v ∷ []) s

  pub sound_define_own : (k : ℕ) (name : List ℕ) (change : Change) → IsSound (define_own h k name change).after
  sound_define_own k name change = steps.stays_sound h (defines k name change ∷ []) s

  pub sound_delete : (k : ℕ) (name : List ℕ) → IsSound (delete h k name).after
  sound_delete k name = steps.stays_sound h (deletes k name ∷ []) s

  pub sound_prevent : (k : ℕ) → IsSound (prevent_extensions h k).after
  sound_prevent k = steps.stays_sound h (prevents k ∷ []) s

  pub sound_added : (k : ℕ) (name : List ℕ) (p : Prop) → IsSound (add_property h k name p)
  sound_added k name p = steps.stays_sound h (adds k name p ∷ []) s

  pub sound_closed : (k : ℕ) → IsSound (close h k)
  sound_closed k = steps.stays_sound h (closes k ∷ []) s

  pub sound_event : (k : ℕ) (parts : EventParts) → IsSound (set_event h k parts)
  sound_event k parts = sound.sound_at h k _ s (sound.event_right k (object_at h.objects k) (λ old. parts) (sound.right_at h k s))

  pub sound_dispatch : (k : ℕ) (sent : Bool) (target current : Option ObjId) (phase : ℕ) → IsSound (set_dispatch h k sent target current phase)
  sound_dispatch k sent target current phase = steps.stays_sound h (gives_parts k (dispatched sent target current phase) ∷ []) s

  pub sound_made : (o : Object) → IsFit o → IsSound (made h o)
  sound_made o fit = sound.sound_made h o s fit

  pub sound_opened : (outer : Option EnvId) (names : Bound) → IsSound (opened h outer names)
  sound_opened outer names = sound.sound_opened h outer names s

  pub sound_set : (k : ℕ) (name : List ℕ) (v : Value) → IsSound (set h k name v)
  sound_set k name v = sound.sound_set h k name v s

  -- a whole object is pushed
  pub sound_pushed : (o : Object) → IsFit o → ForSome o.proto (λ p. p.0 < length h.objects) → ForSome (target_of o.class) (λ t. t.0 < length h.objects) → IsSound (with_new_object h o)
  sound_pushed o fit proto target = sound.sound_with h o s (record { prototype = proto; target = target; array = fit.array; names = fit.names })

-- ---- what is at a place after a call

pub object_before : (objects : List Object) (o : Object) (k : ℕ) → k < length objects → object_at (objects ++ o ∷ []) k ≡ object_at objects k
object_before objects o k there = get_or-append objects (o ∷ []) no_object k there

pub object_last : (objects : List Object) (o : Object) → object_at (objects ++ o ∷ []) (length objects) ≡ o
object_last objects o = get_or-append_seam objects o [] no_object

pub object_set_same : (objects : List Object) (k : ℕ) (o : Object) → k < length objects → object_at (slice_set objects k o) k ≡ o
object_set_same objects k o there = get_or-set_same objects k o no_object there

pub object_set_other : (objects : List Object) (i k : ℕ) (o : Object) → (k ≡ i → ⊥) → object_at (slice_set objects i o) k ≡ object_at objects k
object_set_other objects i k o other = get_or-set_other objects i k o no_object other

pub environment_before : (environments : List Environment) (e : Environment) (k : ℕ) → k < length environments → environment_at (environments ++ e ∷ []) k ≡ environment_at environments k
environment_before environments e k there = get_or-append environments (e ∷ []) no_environment k there

pub environment_last : (environments : List Environment) (e : Environment) → environment_at (environments ++ e ∷ []) (length environments) ≡ e
environment_last environments e = get_or-append_seam environments e [] no_environment

pub environment_set_same : (h : Contents) (k : ℕ) (name : List ℕ) (v : Value) → k < length h.environments → environment_at (set h k name v).environments k ≡ with_bound (environment_at h.environments k) name v
unfolding set
environment_set_same h k name v there = get_or-set_same h.environments k (with_bound (environment_at h.environments k) name v) no_environment there

pub environment_set_other : (h : Contents) (i k : ℕ) (name : List ℕ) (v : Value) → (k ≡ i → ⊥) → environment_at (set h i name v).environments k ≡ environment_at h.environments k
unfolding set
environment_set_other h i k name v other = get_or-set_other h.environments i k (with_bound (environment_at h.environments i) name v) no_environment other

-- ---- at a place where there is nothing

pub object_absent : (objects : List Object) (k : ℕ) → length objects ≤ k → object_at objects k ≡ no_object
object_absent = missing.object_absent

pub environment_absent : (environments : List Environment) (k : ℕ) → length environments ≤ k → environment_at environments k ≡ no_environment
environment_absent = missing.environment_absent

pub object_past : (h : Contents) (k : ℕ) (o : Object) → length h.objects ≤ k → with_object h k o ≡ h
object_past = missing.object_past

pub put_absent : (h : Contents) (k : ℕ) (name : List ℕ) (v : Value) → length h.objects ≤ k → put h k name v ≡ throws h CannotSet
put_absent = missing.put_absent

pub define_absent : (h : Contents) (k : ℕ) (name : List ℕ) (change : Change) → length h.objects ≤ k → define_own h k name change ≡ throws h CannotDefine
define_absent = missing.define_absent

pub delete_absent : (h : Contents) (k : ℕ) (name : List ℕ) → length h.objects ≤ k → delete h k name ≡ throws h CannotDelete
delete_absent = missing.delete_absent

pub prevent_absent : (h : Contents) (k : ℕ) → length h.objects ≤ k → prevent_extensions h k ≡ throws h CannotDefine
prevent_absent = missing.prevent_absent

pub get_absent : (objects : List Object) (k : ℕ) (name : List ℕ) → length objects ≤ k → get_property objects k name ≡ None
get_absent = missing.get_absent

pub lookup_absent : (environments : List Environment) (k : ℕ) (name : List ℕ) → length environments ≤ k → lookup environments k name ≡ None
lookup_absent = missing.lookup_absent

pub set_absent : (h : Contents) (k : ℕ) (name : List ℕ) (v : Value) → length h.environments ≤ k → set h k name v ≡ h
set_absent = missing.set_absent

-- ---- chains

-- what is seen up from an object is seen in it, or else up from its prototype
pub found_on : {A : Type 0} (see : Object → Option A) (objects : List Object) (k : ℕ) → AreOlder objects → found see objects k ≡ first_found (see (object_at objects k)) (object_at objects k).proto (λ q. found see objects q)
found_on see objects k ages = chains.found_on see objects k ages

pub property_on : (objects : List Object) (k : ℕ) (name : List ℕ) → AreOlder objects → get_property objects k name ≡ first_found (own_property (object_at objects k).props name) (object_at objects k).proto (λ q. get_property objects q name)
property_on = chains.step

pub lookup_on : (environments : List Environment) (k : ℕ) (name : List ℕ) → AreInside environments
    → lookup environments k name ≡ first_bound k (value_of (environment_at environments k).names name) (environment_at environments k).outer (λ q. lookup environments q name)
lookup_on = scopes.step

-- ---- look-ups

pub put_then_get : PutThenGet
put_then_get = got.put_then_get

pub value_set : (names : Bound) (name : List ℕ) (u v : Value) → value_of names name ≡ Some u → value_of (with_value_of names name v) name ≡ Some v
value_set names name u v there = lists.lookup_set (bytes_eq name) names v u there

pub value_set_other : (names : Bound) (name other : List ℕ) (v : Value) → bytes_eq other name ≡ false → value_of (with_value_of names name v) other ≡ value_of names other
value_set_other names name other v far = lists.lookup_set_other (bytes_eq other) (bytes_eq name) names v (lists.apart other name far)

-- a name that was set is read
pub set_then_value : (h : Contents) (k : ℕ) (name : List ℕ) (u v : Value) → k < length h.environments → value_of (environment_at h.environments k).names name ≡ Some u
    → value_of (environment_at (set h k name v).environments k).names name ≡ Some v
set_then_value h k name u v there bound =
    ap (λ (e : Environment). value_of e.names name) (environment_set_same h k name v there) ∙ value_set (environment_at h.environments k).names name u v bound

pub property_set : (props : Props) (name : List ℕ) (p q : Prop) → own_property props name ≡ Some p → own_property (with_property props name q) name ≡ Some q
property_set props name p q there = lists.lookup_set (bytes_eq name) props q p there

pub property_set_other : (props : Props) (name other : List ℕ) (q : Prop) → bytes_eq other name ≡ false → own_property (with_property props name q) other ≡ own_property props other
property_set_other props name other q far = lists.lookup_set_other (bytes_eq other) (bytes_eq name) props q (lists.apart other name far)

pub property_last : (props : Props) (name : List ℕ) (p : Prop) → own_property props name ≡ None → own_property (props ++ (name, p) ∷ []) name ≡ Some p
property_last props name p none = lists.lookup_last (bytes_eq name) props name p none (lists.same_key name)

pub property_before : (props : Props) (name other : List ℕ) (p : Prop) → bytes_eq other name ≡ false → own_property (props ++ (name, p) ∷ []) other ≡ own_property props other
property_before props name other p far = lists.lookup_before (bytes_eq other) props name p far

pub property_removed_other : (props : Props) (name other : List ℕ) → bytes_eq other name ≡ false → own_property (without_property props name) other ≡ own_property props other
property_removed_other props name other far = lists.lookup_remove_other (bytes_eq other) (bytes_eq name) props (lists.apart other name far)

-- ---- a new property as an equation

-- nothing of an object that is neither closed nor the global one is closed
pub open_at : (o : Object) (name : List ℕ) → o.closed ≡ false → is_window o.class ≡ false → is_closed_at o name ≡ false
open_at o name closed window = rw closed (rw window refl)

pub ordinary_new : (o : Object) (name : List ℕ) (change : Change) → own_property o.props name ≡ None → o.extensible ≡ true → define_ordinary CannotDefine o name change ≡ done (with_props o (o.props ++ (name, created change) ∷ []))
ordinary_new o name change fresh extensible = ap (defined_over CannotDefine o name change) fresh ∙ cond-true o.extensible _ _ extensible

pub define_new : (o : Object) (name : List ℕ) (change : Change) → is_closed_at o name ≡ false → is_list o.class ≡ false → own_property o.props name ≡ None → o.extensible ≡ true
    → object.define_own o name change ≡ done (with_props o (o.props ++ (name, created change) ∷ []))
define_new o name change open_place ordinary fresh extensible =
    cond-false (is_closed_at o name) _ _ open_place ∙ cond-false (is_list o.class) _ _ ordinary ∙ ordinary_new o name change fresh extensible

-- an element past an array's end makes it longer
pub define_new_element : (o : Object) (name : List ℕ) (i : ℕ) (change : Change) → is_closed_at o name ≡ false → is_list o.class ≡ true → bytes_eq name length_name ≡ false → index_of name ≡ Some i
    → nat_lt i (array_length o) ≡ false → has_writable_length o ≡ true → own_property o.props name ≡ None → o.extensible ≡ true
    → object.define_own o name change ≡ done (with_length (with_props o (o.props ++ (name, created change) ∷ [])) (i + 1))
define_new_element o name i change open_place array far index past writable fresh extensible =
    cond-false (is_closed_at o name) _ _ open_place ∙ cond-true (is_list o.class) _ _ array ∙ cond-false (bytes_eq name length_name) _ _ far
    ∙ ap (object.define_indexed CannotDefine o name change) index ∙ cond-false (nat_lt i (array_length o)) _ _ past ∙ cond-true (has_writable_length o) _ _ writable
    ∙ ap (grown (i + 1)) (ordinary_new o name change fresh extensible)

-- the same on a heap
pub define_new_at : (h : Contents) (k : ℕ) (name : List ℕ) (change : Change) → let o = object_at h.objects k in is_closed_at o name ≡ false → is_list o.class ≡ false → own_property o.props name ≡ None → o.extensible ≡ true
    → define_own h k name change ≡ done (with_object h k (with_props o (o.props ++ (name, created change) ∷ [])))
unfolding define_own
define_new_at h k name change open_place ordinary fresh extensible =
    ap (at_object h k) (define_new (object_at h.objects k) name change open_place ordinary fresh extensible)

-- a whole property is added
pub added_new : (o : Object) (name : List ℕ) (p : Prop) → is_list o.class ≡ false → own_property o.props name ≡ None → with_added o name p ≡ with_props o (o.props ++ (name, p) ∷ [])
added_new o name p ordinary fresh = rw ordinary (rw fresh refl)

-- ---- events that rest

-- the objects come to rest from the youngest down
pub rested_down : (os : List Object) → rest_down (length os) os ≡ map rested os
rested_down = resting.rested_down
