-- What is equal when it is named by places is related, for any links of what has the same place in two pages.
use Rattle.std.specs.Prelude.{unwrap_or}
use Rattle.std.proofs.Common.{◌≡◌, sym, ap, subst, ◌∙◌, ℕ, is_some, List, [], ◌∷◌, Option, Some, None}
use Rattle.heap_relations.proofs.Callers.{is_some_same}
use Rattle.heap_relations.specs.Related.{Each, Entries, EventRel, Links, Maybe, ObjectIds, PropRel, ValueRel, each, entry, no_entries, no_more, none, null, num, object, some, text, truth, undefined}
use Rattle.heap_walker.specs.Still.{IsQuiet}
use Rattle.heap_walker.specs.Things.{needs_links}
use Rattle.js_values.specs.declared.ids.ObjId.{ObjId}
use Rattle.js_values.specs.declared.value.Value.{Value}
use Rattle.js_values.specs.declared.value.Value.TheVariants as value
use Rattle.object_heap.specs.Property.{Props}
use Rattle.object_heap.specs.declared.object.EventParts.{EventParts}
use Rattle.object_shapes.specs.Links.{props_links, proto_links, value_links, values_links}
use Rattle.rebuild_plan.specs.Compact.{moved_needs, moved_props, moved_proto, moved_value, moved_values, place_of}
use Rattle.rebuild_plan.specs.Events.{event_of}
use Rattle.rebuilding.proofs.Basics.{heads_same, tails_same}
use Rattle.rebuilding.proofs.Known.{AreKnown, IsKnown, head_in, left_known, right_known}

abbrev at_of : Value → ℕ
at_of (value.Object at) = at.0
at_of v = 0

-- an event that is not under dispatch, and was sent where it has a target
pub record IsResting (p : EventParts) : Type 0 where
  pub quiet : IsQuiet p
  pub sent : p.sent ≡ is_some p.target

pub nothing_same : (L : Links) (p q : Option ObjId) → p ≡ None → q ≡ None → Maybe (ObjectIds L) p q
nothing_same L p q e f = subst (λ x. Maybe (ObjectIds L) x q) (sym e) (subst (λ x. Maybe (ObjectIds L) None x) (sym f) none)

module _ (L : Links) (ks js : List ℕ) (same_place : (a b : ℕ) → IsKnown ks a → IsKnown js b → place_of ks a ≡ place_of js b → L.object a b) where
  pub value_rel : (v w : Value) → moved_value ks v ≡ moved_value js w → AreKnown ks (value_links v) → AreKnown js (value_links w)
      → ValueRel L v w
  value_rel value.Undefined value.Undefined e one two = undefined
  value_rel value.Null value.Null e one two = null
  value_rel (value.Bool b) (value.Bool c) e one two = subst (λ v. ValueRel L (value.Bool b) v) e truth
  value_rel (value.Num n) (value.Num k) e one two = subst (λ v. ValueRel L (value.Num n) v) e num
  value_rel (value.Text x) (value.Text y) e one two = subst (λ v. ValueRel L (value.Text x) v) e text
  value_rel (value.Object a) (value.Object b) e one two =
      object (same_place a.0 b.0 (one a.0 (head_in a.0 [])) (two b.0 (head_in b.0 [])) (ap at_of e))
  value_rel v w e one two = absurd (cc e)

  pub values_rel : (vs ws : List Value) → moved_values ks vs ≡ moved_values js ws → AreKnown ks (values_links vs) → AreKnown js (values_links ws)
      → Each (ValueRel L) vs ws
  values_rel [] [] e one two = no_more
  values_rel [] (w ∷ ws) e one two = absurd (cc e)
  values_rel (v ∷ vs) [] e one two = absurd (cc e)
  values_rel (v ∷ vs) (w ∷ ws) e one two =
      each (value_rel v w (heads_same e) (left_known ks (value_links v) (values_links vs) one) (left_known js (value_links w) (values_links ws) two))
      (values_rel vs ws (tails_same e) (right_known ks (value_links v) (values_links vs) one) (right_known js (value_links w) (values_links ws) two))

  pub needs_rel : (ns ms : List (List ℕ × Value)) → moved_needs ks ns ≡ moved_needs js ms → AreKnown ks (needs_links ns) → AreKnown js (needs_links ms)
      → Entries (ValueRel L) ns ms
  needs_rel [] [] e one two = no_entries
  needs_rel [] (k ∷ ms) e one two = absurd (cc e)
  needs_rel (n ∷ ns) [] e one two = absurd (cc e)
  needs_rel ((x, v) ∷ ns) ((y, w) ∷ ms) e one two =
      let name : x ≡ y = ap (λ f. f.0) (heads_same e) in
      let first = value_rel v w (ap (λ f. f.1) (heads_same e)) (left_known ks (value_links v) (needs_links ns) one)
      (left_known js (value_links w) (needs_links ms) two)
      in
      let rest = needs_rel ns ms (tails_same e) (right_known ks (value_links v) (needs_links ns) one) (right_known js (value_links w) (needs_links ms) two) in
      subst (λ z. Entries (ValueRel L) ((x, v) ∷ ns) ((z, w) ∷ ms)) name (entry first rest)

  pub props_rel : (ps qs : Props) → moved_props ks ps ≡ moved_props js qs → AreKnown ks (props_links ps) → AreKnown js (props_links qs)
      → Entries (PropRel L) ps qs
  props_rel [] [] e one two = no_entries
  props_rel [] (q ∷ qs) e one two = absurd (cc e)
  props_rel (p ∷ ps) [] e one two = absurd (cc e)
  props_rel ((x, p) ∷ ps) ((y, q) ∷ qs) e one two =
      let name : x ≡ y = ap (λ f. f.0) (heads_same e) in
      let held = value_rel p.value q.value (ap (λ f. f.1.value) (heads_same e)) (left_known ks (value_links p.value) (props_links ps) one)
      (left_known js (value_links q.value) (props_links qs) two)
      in
      let first : PropRel L p q =
      record {
        value = held;
        writable = ap (λ f. f.1.writable) (heads_same e);
        enumerable = ap (λ f. f.1.enumerable) (heads_same e);
        configurable = ap (λ f. f.1.configurable) (heads_same e);
      }
      in
      let rest = props_rel ps qs (tails_same e) (right_known ks (value_links p.value) (props_links ps) one) (right_known js (value_links q.value) (props_links qs) two)
      in
      subst (λ z. Entries (PropRel L) ((x, p) ∷ ps) ((z, q) ∷ qs)) name (entry first rest)

  pub proto_rel : (p q : Option ObjId) → moved_proto ks p ≡ moved_proto js q → AreKnown ks (proto_links p) → AreKnown js (proto_links q)
      → Maybe (ObjectIds L) p q
  proto_rel None None e one two = none
  proto_rel None (Some b) e one two = absurd (cc e)
  proto_rel (Some a) None e one two = absurd (cc e)
  proto_rel (Some a) (Some b) e one two =
      some (record { linked = same_place a.0 b.0 (one a.0 (head_in a.0 [])) (two b.0 (head_in b.0 [])) (ap (λ o. (unwrap_or o a).0) e) })

  -- ---- events

  pub event_rel : (p q : EventParts) → IsResting p → IsResting q → event_of ks p ≡ event_of js q → AreKnown ks (proto_links p.target)
      → AreKnown js (proto_links q.target) → EventRel L p q
  event_rel p q left right e one two =
      let target : Maybe (ObjectIds L) p.target q.target = proto_rel p.target q.target (ap (λ x. x.target) e) one two in
      record {
        kind = ap (λ x. x.kind) e;
        bubbles = ap (λ x. x.bubbles) e;
        cancelable = ap (λ x. x.cancelable) e;
        begun = ap (λ x. x.begun) e;
        sent = left.sent ∙ is_some_same target ∙ sym right.sent;
        target = target;
        current = nothing_same L p.current q.current left.quiet.current right.quiet.current;
        phase = left.quiet.phase ∙ sym right.quiet.phase;
      }
