-- What is related for links that name the same objects is related for others that name them too.
use Rattle.std.proofs.Common.{ℕ, List, Option}
use Rattle.heap_relations.proofs.Callers.{each_map}
use Rattle.heap_relations.specs.Related.{Each, Entries, EventRel, Links, Maybe, ObjectIds, PropRel, ValueRel, entry, no_entries, none, null, num, object, some, text, truth, undefined}
use Rattle.js_values.specs.declared.ids.ObjId.{ObjId}
use Rattle.js_values.specs.declared.value.Value.{Value}
use Rattle.object_heap.specs.declared.object.EventParts.{EventParts}
use Rattle.object_heap.specs.declared.property.Prop.{Prop}

module _ {A : Type 0} {R S : A → A → Type 0} (f : (a b : A) → R a b → S a b) where
  pub maybe_map : {o p : Option A} → Maybe R o p → Maybe S o p
  maybe_map none = none
  maybe_map (some h) = some (f _ _ h)

  pub entries_map : {xs ys : List (List ℕ × A)} → Entries R xs ys → Entries S xs ys
  entries_map no_entries = no_entries
  entries_map (entry h hs) = entry (f _ _ h) (entries_map hs)

module _ {L M : Links} (up : (a b : ℕ) → L.object a b → M.object a b) where
  pub ids_up : (a b : ObjId) → ObjectIds L a b → ObjectIds M a b
  ids_up a b h = record { linked = up a.0 b.0 h.linked }

  pub value_up : (v w : Value) → ValueRel L v w → ValueRel M v w
  value_up _ _ undefined = undefined
  value_up _ _ null = null
  value_up _ _ truth = truth
  value_up _ _ num = num
  value_up _ _ text = text
  value_up _ _ (object h) = object (up _ _ h)

  pub values_up : (vs ws : List Value) → Each (ValueRel L) vs ws → Each (ValueRel M) vs ws
  values_up vs ws h = each_map value_up h

  pub prop_up : (p q : Prop) → PropRel L p q → PropRel M p q
  prop_up p q h = record { value = value_up _ _ h.value; writable = h.writable; enumerable = h.enumerable; configurable = h.configurable }

  pub event_up : (p q : EventParts) → EventRel L p q → EventRel M p q
  event_up p q h = record {
    kind = h.kind;
    bubbles = h.bubbles;
    cancelable = h.cancelable;
    begun = h.begun;
    sent = h.sent;
    target = maybe_map ids_up h.target;
    current = maybe_map ids_up h.current;
    phase = h.phase;
  }
