-- What is related stays so for larger links, and is related by way of a third heap: each proved once.
use Rattle.std.proofs.Common.{sym, ◌∙◌, ℕ, List, Option}
use Rattle.js_values.specs.declared.ids.ObjId.{ObjId}
use Rattle.js_values.specs.declared.value.Value.{Value}
use Rattle.object_heap.specs.declared.object.Class.{Class}
use Rattle.object_heap.specs.declared.object.EventParts.{EventParts}
use Rattle.object_heap.specs.Object.{Object}
use Rattle.object_heap.specs.declared.property.Change.{Change}
use Rattle.object_heap.specs.declared.property.Prop.{Prop}
use Rattle.heap_relations.specs.Related.{Links, Maybe, none, some, Each, no_more, each, Entries, no_entries, entry, ObjectIds, ValueRel, PropRel, ChangeRel, EventRel, ClassRel, ObjectRel, ObjectsRel, Grows, Joins, Turns, through, turned, undefined, null, truth, num, text, object, plain, array, page, native, bound, fault, math, window, node, event}

pub grows_same : {L : Links} → Grows L L
grows_same = record { object = λ a b h. h; node = λ a b h. h; function = λ c d e f h. h }

pub grows_more : {L M P : Links} → Grows L M → Grows M P → Grows L P
grows_more f g = record {
  object = λ a b h. g.object a b (f.object a b h);
  node = λ a b h. g.node a b (f.node a b h);
  function = λ c d e k h. g.function c d e k (f.function c d e k h);
}

module _ {A : Type 0} {R S : A → A → Type 0} (f : (a b : A) → R a b → S a b) where
  pub maybe_map : {o p : Option A} → Maybe R o p → Maybe S o p
  maybe_map none = none
  maybe_map (some h) = some (f _ _ h)

  pub each_map : {xs ys : List A} → Each R xs ys → Each S xs ys
  each_map no_more = no_more
  each_map (each h hs) = each (f _ _ h) (each_map hs)

  pub entries_map : {xs ys : List (List ℕ × A)} → Entries R xs ys → Entries S xs ys
  entries_map no_entries = no_entries
  entries_map (entry h hs) = entry (f _ _ h) (entries_map hs)

module _ {A : Type 0} {R S T : A → A → Type 0} (f : (a b c : A) → R a b → S b c → T a c) where
  pub maybe_join : {o p q : Option A} → Maybe R o p → Maybe S p q → Maybe T o q
  maybe_join none none = none
  maybe_join (some h) (some k) = some (f _ _ _ h k)

  pub each_join : {xs ys zs : List A} → Each R xs ys → Each S ys zs → Each T xs zs
  each_join no_more no_more = no_more
  each_join (each h hs) (each k ks) = each (f _ _ _ h k) (each_join hs ks)

  pub entries_join : {xs ys zs : List (List ℕ × A)} → Entries R xs ys → Entries S ys zs → Entries T xs zs
  entries_join no_entries no_entries = no_entries
  entries_join (entry h hs) (entry k ks) = entry (f _ _ _ h k) (entries_join hs ks)

module _ {L M : Links} (g : Grows L M) where
  pub ids_up : (a b : ObjId) → ObjectIds L a b → ObjectIds M a b
  ids_up a b h = record { linked = g.object a.0 b.0 h.linked }

  pub value_up : (v w : Value) → ValueRel L v w → ValueRel M v w
  value_up _ _ undefined = undefined
  value_up _ _ null = null
  value_up _ _ truth = truth
  value_up _ _ num = num
  value_up _ _ text = text
  value_up _ _ (object h) = object (g.object _ _ h)

  pub prop_up : (p q : Prop) → PropRel L p q → PropRel M p q
  prop_up p q h = record { value = value_up _ _ h.value; writable = h.writable; enumerable = h.enumerable; configurable = h.configurable }

  pub change_up : (c d : Change) → ChangeRel L c d → ChangeRel M c d
  change_up c d h = record { value = maybe_map value_up h.value; writable = h.writable; enumerable = h.enumerable; configurable = h.configurable }

  pub event_up : (p q : EventParts) → EventRel L p q → EventRel M p q
  event_up p q h = record {
    kind = h.kind;
    bubbles = h.bubbles;
    cancelable = h.cancelable;
    begun = h.begun;
    sent = h.sent;
    target = maybe_map ids_up h.target;
    current = maybe_map ids_up h.current;
    phase = h.phase;
  }

  pub class_up : (c d : Class) → ClassRel L c d → ClassRel M c d
  class_up _ _ plain = plain
  class_up _ _ array = array
  class_up _ _ (page h) = page (g.function _ _ _ _ h)
  class_up _ _ native = native
  class_up _ _ (bound h v vs) = bound (g.object _ _ h) (value_up _ _ v) (each_map value_up vs)
  class_up _ _ fault = fault
  class_up _ _ math = math
  class_up _ _ window = window
  class_up _ _ (node h) = node (g.node _ _ h)
  class_up _ _ (event h) = event (event_up _ _ h)

  pub object_up : (o p : Object) → ObjectRel L o p → ObjectRel M o p
  object_up o p h = record {
    class = class_up _ _ h.class;
    proto = maybe_map ids_up h.proto;
    extensible = h.extensible;
    closed = h.closed;
    props = entries_map prop_up h.props;
  }

module _ {L M P : Links} (j : Joins L M P) where
  ids_join : (a b c : ObjId) → ObjectIds L a b → ObjectIds M b c → ObjectIds P a c
  ids_join a b c h k = record { linked = j.object a.0 b.0 c.0 h.linked k.linked }

  pub value_join : (v w x : Value) → ValueRel L v w → ValueRel M w x → ValueRel P v x
  value_join _ _ _ undefined undefined = undefined
  value_join _ _ _ null null = null
  value_join _ _ _ truth truth = truth
  value_join _ _ _ num num = num
  value_join _ _ _ text text = text
  value_join _ _ _ (object h) (object k) = object (j.object _ _ _ h k)

  prop_join : (p q r : Prop) → PropRel L p q → PropRel M q r → PropRel P p r
  prop_join p q r h k = record {
    value = value_join _ _ _ h.value k.value;
    writable = h.writable ∙ k.writable;
    enumerable = h.enumerable ∙ k.enumerable;
    configurable = h.configurable ∙ k.configurable;
  }

  event_join : (p q r : EventParts) → EventRel L p q → EventRel M q r → EventRel P p r
  event_join p q r h k = record {
    kind = h.kind ∙ k.kind;
    bubbles = h.bubbles ∙ k.bubbles;
    cancelable = h.cancelable ∙ k.cancelable;
    begun = h.begun ∙ k.begun;
    sent = h.sent ∙ k.sent;
    target = maybe_join ids_join h.target k.target;
    current = maybe_join ids_join h.current k.current;
    phase = h.phase ∙ k.phase;
  }

  class_join : (c d e : Class) → ClassRel L c d → ClassRel M d e → ClassRel P c e
  class_join _ _ _ plain plain = plain
  class_join _ _ _ array array = array
  class_join _ _ _ (page h) (page k) = page (j.function _ _ _ _ _ _ h k)
  class_join _ _ _ native native = native
  class_join _ _ _ (bound h v vs) (bound k w ws) = bound (j.object _ _ _ h k) (value_join _ _ _ v w) (each_join value_join vs ws)
  class_join _ _ _ fault fault = fault
  class_join _ _ _ math math = math
  class_join _ _ _ window window = window
  class_join _ _ _ (node h) (node k) = node (j.node _ _ _ h k)
  class_join _ _ _ (event h) (event k) = event (event_join _ _ _ h k)

  pub object_join : (o p q : Object) → ObjectRel L o p → ObjectRel M p q → ObjectRel P o q
  object_join o p q h k = record {
    class = class_join _ _ _ h.class k.class;
    proto = maybe_join ids_join h.proto k.proto;
    extensible = h.extensible ∙ k.extensible;
    closed = h.closed ∙ k.closed;
    props = entries_join prop_join h.props k.props;
  }

module _ {A : Type 0} {R S : A → A → Type 0} (f : (a b : A) → R a b → S b a) where
  pub maybe_turn : {o p : Option A} → Maybe R o p → Maybe S p o
  maybe_turn none = none
  maybe_turn (some h) = some (f _ _ h)

  pub each_turn : {xs ys : List A} → Each R xs ys → Each S ys xs
  each_turn no_more = no_more
  each_turn (each h hs) = each (f _ _ h) (each_turn hs)

  pub entries_turn : {xs ys : List (List ℕ × A)} → Entries R xs ys → Entries S ys xs
  entries_turn no_entries = no_entries
  entries_turn (entry h hs) = entry (f _ _ h) (entries_turn hs)

module _ {L M : Links} (t : Turns L M) where
  ids_turn : (a b : ObjId) → ObjectIds L a b → ObjectIds M b a
  ids_turn a b h = record { linked = t.object a.0 b.0 h.linked }

  pub value_turn : (v w : Value) → ValueRel L v w → ValueRel M w v
  value_turn _ _ undefined = undefined
  value_turn _ _ null = null
  value_turn _ _ truth = truth
  value_turn _ _ num = num
  value_turn _ _ text = text
  value_turn _ _ (object h) = object (t.object _ _ h)

  prop_turn : (p q : Prop) → PropRel L p q → PropRel M q p
  prop_turn p q h = record { value = value_turn _ _ h.value; writable = sym h.writable; enumerable = sym h.enumerable; configurable = sym h.configurable }

  event_turn : (p q : EventParts) → EventRel L p q → EventRel M q p
  event_turn p q h = record {
    kind = sym h.kind;
    bubbles = sym h.bubbles;
    cancelable = sym h.cancelable;
    begun = sym h.begun;
    sent = sym h.sent;
    target = maybe_turn ids_turn h.target;
    current = maybe_turn ids_turn h.current;
    phase = sym h.phase;
  }

  class_turn : (c d : Class) → ClassRel L c d → ClassRel M d c
  class_turn _ _ plain = plain
  class_turn _ _ array = array
  class_turn _ _ (page h) = page (t.function _ _ _ _ h)
  class_turn _ _ native = native
  class_turn _ _ (bound h v vs) = bound (t.object _ _ h) (value_turn _ _ v) (each_turn value_turn vs)
  class_turn _ _ fault = fault
  class_turn _ _ math = math
  class_turn _ _ window = window
  class_turn _ _ (node h) = node (t.node _ _ h)
  class_turn _ _ (event h) = event (event_turn _ _ h)

  pub object_turn : (o p : Object) → ObjectRel L o p → ObjectRel M p o
  object_turn o p h = record {
    class = class_turn _ _ h.class;
    proto = maybe_turn ids_turn h.proto;
    extensible = sym h.extensible;
    closed = sym h.closed;
    props = entries_turn prop_turn h.props;
  }

-- whole lists of objects
pub joins : (L M : Links) → Joins L M (through L M)
joins L M = record {
  object = λ a b c h k. record { middle = b; one = h; two = k };
  node = λ a b c h k. record { middle = b; one = h; two = k };
  function = λ c d k e f g h i. record { middle = d; round = f; one = h; two = i };
}

pub objects_join : {L M : Links} {os ps qs : List Object} → ObjectsRel L os ps → ObjectsRel M ps qs → ObjectsRel (through L M) os qs
objects_join {L = L} {M = M} h k = record {
  at = λ a c i. object_join (joins L M) _ _ _ (h.at a i.middle i.one) (k.at i.middle c i.two);
  inside = λ a c i. ((h.inside a i.middle i.one).0, (k.inside i.middle c i.two).1);
  one_to_one = record { same = λ a b c d i j. h.one_to_one.same a i.middle c j.middle i.one j.one ∙ k.one_to_one.same i.middle b j.middle d i.two j.two };
}

pub turns : (L : Links) → Turns L (turned L)
turns L = record { object = λ a b h. record { back = h }; node = λ a b h. record { back = h }; function = λ c d e f h. record { back = h } }

pub objects_turn : {L : Links} {os ps : List Object} → ObjectsRel L os ps → ObjectsRel (turned L) ps os
objects_turn {L = L} h = record {
  at = λ b a i. object_turn (turns L) _ _ (h.at a b i.back);
  inside = λ b a i. let n = h.inside a b i.back in (n.1, n.0);
  one_to_one = record { same = λ a b c d i j. sym (h.one_to_one.same b a d c i.back j.back) };
}
