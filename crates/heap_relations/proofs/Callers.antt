-- What other crates cite of the proofs of this one.
use Rattle.std.specs.Prelude.{Some}
use Rattle.object_heap.specs.Function.{with_function}
use Rattle.std.proofs.Common.{ap, ◌≡◌, ℕ, suc, ◌<◌, Bool, false, nat_eq, List, [], ◌++◌, Option, length, slice_index_or, drop, true, ◌∷◌, bytes_eq, ◌^◌}
use Rattle.std.specs.Map.{keys_of, lookup as find}
use Rattle.std.specs.Option.{ForSome, is_some}
use Rattle.js_core.specs.Tree.{Code}
use Rattle.js_values.specs.declared.ids.EnvId.{EnvId}
use Rattle.js_values.specs.declared.ids.ObjId.{ObjId}
use Rattle.js_values.specs.declared.value.Value.{Value}
use Rattle.js_values.specs.declared.value.Value.TheVariants as value
use Rattle.object_heap.specs.declared.object.Class.TheVariants as class
use Rattle.object_heap.specs.declared.object.Class.{Class}
use Rattle.object_heap.specs.declared.object.EventParts.{EventParts}
use Rattle.object_heap.specs.declared.property.Change.{Change}
use Rattle.object_heap.specs.declared.property.Prop.{Prop}
use Rattle.object_heap.specs.Chain.{can_put, found, get, get_property, object_at}
use Rattle.object_heap.specs.Define.{array_length}
use Rattle.object_heap.specs.Environment.{AreInside, Environment, Bound}
use Rattle.object_heap.specs.Heap.{Contents, add_property, close, define_own, delete, empty, look_in, lookup, prevent_extensions, put, set, set_dispatch, set_event, opened, made, new_object}
use Rattle.object_heap.specs.Laws.{after_step, gives_parts}
use Rattle.object_heap.specs.Object.{is_list, Object}
use Rattle.object_heap.specs.Property.{own_property, same_value}
use Rattle.heap_relations.specs.Laws.{EntriesAgree, FunctionsAgree, JoinsAgree, MadeAgree, NewObjectsAgree, OpenedAgree, OthersDoNotCount}
use Rattle.heap_relations.specs.Related.{AttemptRel, ChangeRel, ClassRel, Each, Entries, EventRel, Maybe, ObjectIds, ObjectRel, PropRel, ValueRel}
use Rattle.heap_relations.specs.Naming.{Agree, Assigned, Captured, CapturedRel, Constant, FoundRel, Frame, Free, Functions, here, In, is_reserved, Larger, Named, named, resolve, Round, Slot, with_done, with_object, with_slot, World, env_id, scope_name, is_scope_name, BothRel, Sealed}
use Rattle.heap_relations.specs.Scope.{OwnFunctionsAgree, ScopesAgree, with_own_function, AreFresh, IsFillable}
use Rattle.heap_relations.proofs.Captured as captured
use Rattle.heap_relations.proofs.Chains as chains
use Rattle.heap_relations.proofs.Define as define
use Rattle.heap_relations.proofs.Entry as entry
use Rattle.heap_relations.proofs.Filled as filled
use Rattle.heap_relations.proofs.Functions as functions
use Rattle.heap_relations.proofs.Kept as kept
use Rattle.heap_relations.proofs.Lists as lists
use Rattle.heap_relations.proofs.Map as map
use Rattle.heap_relations.proofs.Names as names
use Rattle.heap_relations.proofs.Objects as objects
use Rattle.heap_relations.proofs.OwnNames as own
use Rattle.heap_relations.proofs.Scopes as scopes
use Rattle.heap_relations.proofs.Worlds as worlds

-- an object, by its place
abbrev pub scope_value : ℕ → Value
scope_value place = value.Object (record { 0 = place })

-- ---- larger namings

pub larger_same : {W : World} → Larger W W
larger_same = worlds.larger_same

pub larger_more : {U V W : World} → Larger U V → Larger V W → Larger U W
larger_more = worlds.larger_more

pub larger_object : {W : World} (a b : ℕ) → Larger W (with_object W a b)
larger_object = objects.one_more

-- the new pair is named, and the new slot is there
pub named_object : {W : World} (a b : ℕ) → Named (with_object W a b) a b
named_object a b = record { named = here }

pub named_slot : (W : World) (s : Slot) → In s (with_slot W s).slots
named_slot W s = here

-- as two functions and their prototypes make it
pub larger_function : {W : World} (a b : ℕ) → Larger W (with_object (with_object W a b) (suc a) (suc b))
larger_function {W = W} a b = worlds.larger_more (objects.one_more {W = W} a b) (objects.one_more {W = with_object W a b} (suc a) (suc b))

pub larger_slot : {W : World} (s : Slot) → Larger W (with_slot W s)
larger_slot = entry.slot_more

pub larger_done : {W : World} (k : ℕ) → Larger W (with_done W k)
larger_done = kept.done_more

-- what is named does not depend on these
pub agree_same : {V W : World} {h g : Contents} → Larger V W → V.objects ≡ W.objects → V.slots ≡ W.slots → Agree V h g → Agree W h g
agree_same = kept.with_same

module _ {V W : World} (l : Larger V W) where
  pub named_up : {a b : ℕ} → Named V a b → Named W a b
  named_up h = (worlds.grows l).object _ _ h

  pub value_up : {v w : Value} → ValueRel (named V) v w → ValueRel (named W) v w
  value_up h = map.value_up (worlds.grows l) _ _ h

  pub some_value_up : {o p : Option Value} → Maybe (ValueRel (named V)) o p → Maybe (ValueRel (named W)) o p
  some_value_up h = map.maybe_map (map.value_up (worlds.grows l)) h

  pub values_up : {vs ws : List Value} → Each (ValueRel (named V)) vs ws → Each (ValueRel (named W)) vs ws
  values_up h = map.each_map (map.value_up (worlds.grows l)) h

  pub ids_up : {a b : ObjId} → ObjectIds (named V) a b → ObjectIds (named W) a b
  ids_up h = map.ids_up (worlds.grows l) _ _ h

  pub some_ids_up : {o p : Option ObjId} → Maybe (ObjectIds (named V)) o p → Maybe (ObjectIds (named W)) o p
  some_ids_up h = map.maybe_map (map.ids_up (worlds.grows l)) h

  pub prop_up : {p q : Prop} → PropRel (named V) p q → PropRel (named W) p q
  prop_up h = map.prop_up (worlds.grows l) _ _ h

  pub props_up : {ps qs : List (List ℕ × Prop)} → Entries (PropRel (named V)) ps qs → Entries (PropRel (named W)) ps qs
  props_up h = map.entries_map (map.prop_up (worlds.grows l)) h

  pub change_up : {c d : Change} → ChangeRel (named V) c d → ChangeRel (named W) c d
  change_up h = map.change_up (worlds.grows l) _ _ h

  pub event_up : {p q : EventParts} → EventRel (named V) p q → EventRel (named W) p q
  event_up h = map.event_up (worlds.grows l) _ _ h

  pub class_up : {c d : Class} → ClassRel (named V) c d → ClassRel (named W) c d
  class_up h = map.class_up (worlds.grows l) _ _ h

  pub object_up : {o p : Object} → ObjectRel (named V) o p → ObjectRel (named W) o p
  object_up h = map.object_up (worlds.grows l) _ _ h

  pub round_up : {fs : List Frame} {e f : Option EnvId} → Round V fs e f → Round W fs e f
  round_up = worlds.round_up l

  pub functions_up : {c d : Code} {e f : Option EnvId} → Functions V c e d f → Functions W c e d f
  functions_up h = (worlds.grows l).function _ _ _ _ h

-- ---- what is read of a pair of objects, and tried on them

module _ {W : World} {h g : Contents} (r : Agree W h g) {k l : ℕ} (i : Named W k l) where
  pub there : (k < length h.objects) × (l < length g.objects)
  there = r.objects.inside k l i

  pub object_read : ObjectRel (named W) (object_at h.objects k) (object_at g.objects l)
  object_read = r.objects.at k l i

  pub class_read : ClassRel (named W) (object_at h.objects k).class (object_at g.objects l).class
  class_read = object_read.class

  pub proto_read : Maybe (ObjectIds (named W)) (object_at h.objects k).proto (object_at g.objects l).proto
  proto_read = object_read.proto

  pub extensible_read : (object_at h.objects k).extensible ≡ (object_at g.objects l).extensible
  extensible_read = object_read.extensible

  pub keys_read : keys_of (object_at h.objects k).props ≡ keys_of (object_at g.objects l).props
  keys_read = lists.keys_same object_read.props

  pub length_read : array_length (object_at h.objects k) ≡ array_length (object_at g.objects l)
  length_read = define.array_length_same object_read

  pub own_read : (name : List ℕ) → Maybe (PropRel (named W)) (own_property (object_at h.objects k).props name) (own_property (object_at g.objects l).props name)
  own_read name = define.own_rel name object_read.props

  pub property_read : (name : List ℕ) → Maybe (PropRel (named W)) (get_property h.objects k name) (get_property g.objects l name)
  property_read name = chains.get_property_rel r.objects r.left.prototypes r.right.prototypes k l name i

  pub get_read : (name : List ℕ) → Maybe (ValueRel (named W)) (get h.objects k name) (get g.objects l name)
  get_read name = chains.get_rel r.objects r.left.prototypes r.right.prototypes k l name i

  pub can_put_read : (name : List ℕ) → can_put h.objects k name ≡ can_put g.objects l name
  can_put_read name = chains.can_put_same r.objects r.left.prototypes r.right.prototypes k l name i

  -- what is seen alike in related objects is found alike up the chains
  pub found_read : {A : Type 0} {R : A → A → Type 0} (see look : Object → Option A) → ((o p : Object) → ObjectRel (named W) o p → Maybe R (see o) (look p)) → Maybe R (found see h.objects k) (found look g.objects l)
  found_read see look s = chains.found_rel r.objects r.left.prototypes r.right.prototypes see look s k l i

  pub put_tried : (name : List ℕ) {v w : Value} → ValueRel (named W) v w → AttemptRel (Agree W) (put h k name v) (put g l name w)
  put_tried name q = objects.put_agrees r i name q

  pub define_tried : (name : List ℕ) {c d : Change} → ChangeRel (named W) c d → AttemptRel (Agree W) (define_own h k name c) (define_own g l name d)
  define_tried name q = objects.define_own_agrees r i name q

  pub delete_tried : (name : List ℕ) → AttemptRel (Agree W) (delete h k name) (delete g l name)
  delete_tried name = objects.delete_agrees r i name

  pub prevent_tried : AttemptRel (Agree W) (prevent_extensions h k) (prevent_extensions g l)
  prevent_tried = objects.prevent_agrees r i

  pub property_added : (name : List ℕ) {p q : Prop} → PropRel (named W) p q → Agree W (add_property h k name p) (add_property g l name q)
  property_added name q = objects.add_agrees r i name q

  pub both_closed : Agree W (close h k) (close g l)
  both_closed = objects.close_agrees r i

  pub event_set : {p q : EventParts} → EventRel (named W) p q → Agree W (set_event h k p) (set_event g l q)
  event_set e = objects.event_agrees r i e

  pub dispatch_set : (sent : Bool) {t u c d : Option ObjId} (phase : ℕ) → Maybe (ObjectIds (named W)) t u → Maybe (ObjectIds (named W)) c d → Agree W (set_dispatch h k sent t c phase) (set_dispatch g l sent u d phase)
  dispatch_set sent phase x y = objects.dispatch_agrees r i sent phase x y

  -- any change of an event's parts that keeps them related
  pub parts_given : (f e : EventParts → EventParts) → ((p q : EventParts) → EventRel (named W) p q → EventRel (named W) (f p) (e q)) → Agree W (after_step h (gives_parts k f)) (after_step g (gives_parts l e))
  parts_given f e m = objects.parts_agree r i f e m

module _ {W : World} {h g : Contents} (r : Agree W h g) where
  pub same_read : {v w x y : Value} → ValueRel (named W) v x → ValueRel (named W) w y → same_value v w ≡ same_value x y
  same_read a b = define.same_value_same r.objects.one_to_one a b

  -- two objects are the same where their counterparts are
  pub same_object : {a b c d : ℕ} → Named W a b → Named W c d → nat_eq a c ≡ nat_eq b d
  same_object i j = r.objects.one_to_one.same _ _ _ _ i j

  -- ---- names

  pub round_there : {fs : List Frame} {e f : Option EnvId} → Round W fs e f → (ForSome e (λ q. q.0 < length h.environments)) × (ForSome f (λ q. q.0 < length g.environments))
  round_there o = entry.round_older r.slots o

  pub name_found : {fs : List Frame} {e f : Option EnvId} (x : List ℕ) → Round W fs e f → is_reserved W.opens x ≡ false
      → FoundRel W g.objects (look_in g.environments f) x (resolve fs x) (look_in h.environments e x) (look_in g.environments f x)
  name_found x o own = names.found_rel r.slots r.left.environments r.right.environments x o own

  module _ (s : Slot) (x : List ℕ) (i : In s W.slots) (own : is_reserved W.opens x ≡ false) where
    pub name_set : {v w : Value} → s.frame.keeps x ≡ Free → ValueRel (named W) v w → Agree W (set h s.one x v) (set g s.two x w)
    name_set free q = scopes.set_agrees s x i (ap scopes.is_set free) own q r

    pub constant_set : {v w : Value} → s.frame.keeps x ≡ Constant → ValueRel (named W) v w → Agree W (set h s.one x v) (set g s.two x w)
    constant_set constant q = scopes.set_agrees s x i (ap scopes.is_set constant) own q r

    pub constant_read : s.frame.keeps x ≡ Constant → BothRel W h g s x
    constant_read keeps = kept.constant_both s x i own r keeps

    pub captured_set : {v w : Value} → s.frame.keeps x ≡ Captured → ValueRel (named W) v w → Assigned W (set h s.one x v) (put g s.place x w)
    captured_set held q = captured.set_captured_agrees s x i held own q r

    pub free_read : s.frame.keeps x ≡ Free → BothRel W h g s x
    free_read keeps = kept.both s x i own r keeps

    pub sealed_read : s.frame.keeps x ≡ Sealed → (b : BothRel W h g s x) × (b.left ≡ s.known x)
    sealed_read keeps = kept.sealed_both s x i own r keeps

    pub captured_read : s.frame.keeps x ≡ Captured → CapturedRel W h g s x
    captured_read held = kept.read s x i own r held

-- an own property is what is read
pub get_own : (objects : List Object) (k : ℕ) (x : List ℕ) (p : Prop) → own_property (object_at objects k).props x ≡ Some p → get objects k x ≡ Some p.value
get_own = captured.get_own

-- a page's own name is no scope object's
pub no_scope_name : (x : List ℕ) (k : ℕ) → is_scope_name x ≡ false → bytes_eq (scope_name k) x ≡ false
no_scope_name = scopes.no_scope_name

pub not_scope_name : (x : List ℕ) (k : ℕ) → is_scope_name x ≡ false → bytes_eq x (scope_name k) ≡ false
not_scope_name = filled.not_scope_name

-- other numbers have other names
pub scope_name_eq : (k d : ℕ) → k < 2 ^ 64 → d < 2 ^ 64 → bytes_eq (scope_name k) (scope_name d) ≡ nat_eq k d
scope_name_eq = filled.scope_name_eq

-- the right finds the scope object of an environment there
pub scope_found : {W : World} {h g : Contents} → Agree W h g → (s : Slot) → In s W.slots → s.frame.scoped ≡ true → W.opens ≡ true
    → lookup g.environments s.two (scope_name s.frame.number) ≡ Some (env_id s.two, scope_value s.place)
scope_found r s i scoped opens = names.scope_found r.slots r.right.environments s i scoped opens

-- what is found outwards is found from where it is
pub found_there : (es : List Environment) (env : Option EnvId) (x : List ℕ) (e : EnvId) (v : Value) → AreInside es → look_in es env x ≡ Some (e, v) → lookup es e.0 x ≡ Some (e, v)
found_there = names.found_there

-- ---- what joins the naming

pub new_objects : NewObjectsAgree
new_objects = kept.new_objects

pub objects_made : MadeAgree
objects_made = kept.made_kept

pub functions_made : FunctionsAgree
functions_made = functions.functions_agree

pub own_functions_made : OwnFunctionsAgree
own_functions_made = own.own_functions

-- the own name may be bound after the function is made
pub own_bound_later : (h : Contents) (outer : Option EnvId) (x : List ℕ) (c : Code) (p : Option ObjId) (formals : ℕ) (above : Option ObjId)
    → set (with_function (opened h outer ((x, value.Undefined) ∷ [])) (class.Page c (Some (record { 0 = length h.environments }))) p formals above) (length h.environments) x (scope_value (length h.objects))
    ≡ with_own_function h outer x c p formals above
own_bound_later = own.bound_later

pub environments_opened : OpenedAgree
environments_opened = entry.new_environments

-- the right may have run alone before
pub environment_entered : EntriesAgree
environment_entered = entry.entries

-- the literal is not refused
pub scope_fillable : (g : Contents) (proto : Option ObjId) (fields : Bound) → AreFresh [] fields → IsFillable (made g (new_object class.Plain proto)) (length g.objects) fields
scope_fillable = filled.new_fillable

-- the right makes a scope object
pub scope_entered : ScopesAgree
scope_entered = filled.scopes

-- two heaps in which nothing is named yet
pub nothing_named : (W : World) → W.objects ≡ [] → W.slots ≡ [] → W.bases ≡ [] → Agree W empty empty
nothing_named = kept.nothing_named

-- ---- other heaps

pub others : OthersDoNotCount
others = kept.others

pub joined : JoinsAgree
joined = kept.joins

-- ---- lists

pub is_some_same : {A : Type 0} {R : A → A → Type 0} {o p : Option A} → Maybe R o p → is_some o ≡ is_some p
is_some_same = lists.is_some_same

module _ {A : Type 0} {R : A → A → Type 0} where
  pub each_append : {xs ys us vs : List A} → Each R xs ys → Each R us vs → Each R (xs ++ us) (ys ++ vs)
  each_append = lists.each_append

  pub each_length : {xs ys : List A} → Each R xs ys → length xs ≡ length ys
  each_length = lists.each_length

  pub each_at : {xs ys : List A} (d e : A) (i : ℕ) → R d e → Each R xs ys → R (slice_index_or xs i d) (slice_index_or ys i e)
  each_at = lists.each_at

  pub each_drop : (n : ℕ) {xs ys : List A} → Each R xs ys → Each R (drop n xs) (drop n ys)
  each_drop = lists.each_drop

  pub each_map : {S : A → A → Type 0} {xs ys : List A} → ((a b : A) → R a b → S a b) → Each R xs ys → Each S xs ys
  each_map f h = map.each_map f h

  pub entry_found : {xs ys : List (List ℕ × A)} (test : List ℕ → Bool) → Entries R xs ys → Maybe R (find test xs) (find test ys)
  entry_found = lists.lookup_rel

  pub entries_append : {xs ys us vs : List (List ℕ × A)} → Entries R xs ys → Entries R us vs → Entries R (xs ++ us) (ys ++ vs)
  entries_append = lists.append_rel

  pub entry_keys : {xs ys : List (List ℕ × A)} → Entries R xs ys → keys_of xs ≡ keys_of ys
  entry_keys = lists.keys_same

pub list_same : {W : World} {c d : Class} → ClassRel (named W) c d → is_list c ≡ is_list d
list_same = define.is_list_same
