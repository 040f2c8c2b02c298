-- What is related refers to what is there.
use Rattle.std.proofs.Common.{◌≡◌, refl, true, false, nat_lt, List, [], ◌∷◌, ◌++◌, Option, length}
use Rattle.std.proofs.lemmas.Bool.{and_from, lt-ltb}
use Rattle.js_values.specs.declared.ids.ObjId.{ObjId}
use Rattle.js_values.specs.declared.value.Value.{Value}
use Rattle.js_values.specs.declared.value.Value.TheVariants as value
use Rattle.object_heap.specs.Environment.{Bound}
use Rattle.object_heap.specs.Object.{Object}
use Rattle.object_heap.specs.Property.{Props}
use Rattle.object_heap.specs.declared.object.Class.{Class}
use Rattle.page_meaning.specs.Store.{Store}
use Rattle.heap_relations.proofs.Callers as heap
use Rattle.heap_relations.specs.Naming.{Named, named, World}
use Rattle.heap_relations.specs.Related.{ClassRel, Each, Entries, Maybe, ObjectIds, ObjectRel, PropRel, ValueRel, array, bound, each, entry, event, fault, math, native, no_entries, no_more, node, none, null, num, object, page, plain, some, text, truth, undefined, window}
use Rattle.object_shapes.proofs.Callers.{below_join}
use Rattle.object_shapes.specs.Laws.{IsNew, ValueBelow}
use Rattle.object_shapes.specs.Links.{all_below, bound_links, event_links, made_links, parts_links, props_links, proto_links, value_links, values_links}
use Rattle.object_shapes.specs.Shapes.{HasShape}
use Rattle.agreement.specs.Acts.{StoreRel}

module _ {W : World} {s t : Store} (g : StoreRel W s t) where
  id_below : (a b : ObjId) → Named W a.0 b.0 → all_below (length s.heap.objects) (a.0 ∷ []) ≡ true
  id_below a b n = and_from (nat_lt a.0 (length s.heap.objects)) true (lt-ltb a.0 (length s.heap.objects) (heap.there g.heap n).0) refl

  pub value_below : {v w : Value} → ValueRel (named W) v w → all_below (length s.heap.objects) (value_links v) ≡ true
  value_below undefined = refl
  value_below null = refl
  value_below truth = refl
  value_below num = refl
  value_below text = refl
  value_below {v = value.Object a} {w = value.Object b} (object n) = id_below a b n

  pub some_below : {o p : Option Value} → Maybe (ValueRel (named W)) o p → ValueBelow s o
  some_below none = tt
  some_below (some h) = value_below h

  values_below : {vs ws : List Value} → Each (ValueRel (named W)) vs ws → all_below (length s.heap.objects) (values_links vs) ≡ true
  values_below no_more = refl
  values_below {vs = v ∷ vs} (each h r) = below_join (length s.heap.objects) (value_links v) (values_links vs) (value_below h) (values_below r)

  pub names_below : {b c : Bound} → Entries (ValueRel (named W)) b c → all_below (length s.heap.objects) (bound_links b) ≡ true
  names_below no_entries = refl
  names_below {b = e ∷ es} (entry h r) = below_join (length s.heap.objects) (value_links e.1) (bound_links es) (value_below h) (names_below r)

  props_below : {ps qs : Props} → Entries (PropRel (named W)) ps qs → all_below (length s.heap.objects) (props_links ps) ≡ true
  props_below no_entries = refl
  props_below {ps = e ∷ es} (entry h r) = below_join (length s.heap.objects) (value_links e.1.value) (props_links es) (value_below h.value)
      (props_below r)

  proto_below : {o p : Option ObjId} → Maybe (ObjectIds (named W)) o p → all_below (length s.heap.objects) (proto_links o) ≡ true
  proto_below none = refl
  proto_below (some {a = a} {b = b} h) = id_below a b h.linked

  parts_below : {c d : Class} → ClassRel (named W) c d → all_below (length s.heap.objects) (parts_links c) ≡ true
  parts_below plain = refl
  parts_below array = refl
  parts_below (page h) = refl
  parts_below native = refl
  parts_below (bound {t = a} {u = b} {v = v} {vs = vs} n h hs) =
      below_join (length s.heap.objects) (a.0 ∷ []) (value_links v ++ values_links vs) (id_below a b n)
      (below_join (length s.heap.objects) (value_links v) (values_links vs) (value_below h) (values_below hs))
  parts_below fault = refl
  parts_below math = refl
  parts_below window = refl
  parts_below (node h) = refl
  parts_below (event h) = refl

  event_below : {c d : Class} → ClassRel (named W) c d → all_below (length s.heap.objects) (event_links c) ≡ true
  event_below plain = refl
  event_below array = refl
  event_below (page h) = refl
  event_below native = refl
  event_below (bound n h hs) = refl
  event_below fault = refl
  event_below math = refl
  event_below window = refl
  event_below (node h) = refl
  event_below (event {p = p} h) = below_join (length s.heap.objects) (proto_links p.target) (proto_links p.current) (proto_below h.target) (proto_below h.current)

  -- an object that is made on both sides
  pub object_new : (o p : Object) → ObjectRel (named W) o p → o.closed ≡ false → HasShape s o o.class → IsNew s o
  object_new o p r open_one shape = record {
    there = below_join (length s.heap.objects) (made_links o) (event_links o.class ++ props_links o.props)
        (below_join (length s.heap.objects) (proto_links o.proto) (parts_links o.class) (proto_below r.proto) (parts_below r.class))
        (below_join (length s.heap.objects) (event_links o.class) (props_links o.props) (event_below r.class) (props_below r.props));
    made = shape;
    not_closed = open_one;
  }
