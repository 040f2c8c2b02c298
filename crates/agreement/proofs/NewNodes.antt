-- New nodes and events in both pages.
use Rattle.std.proofs.Common.{◌≡◌, inl, refl, ◌≤◌, ℕ, true, if◌then◌else◌, length, Some, arith}
use Rattle.dom_tree.specs.declared.content.Kind.{Kind}
use Rattle.js_values.specs.declared.ids.ObjId.{ObjId}
use Rattle.object_heap.proofs.Callers.{new_fit}
use Rattle.object_heap.specs.Heap.{Contents, made}
use Rattle.object_heap.specs.declared.object.Class.TheVariants.{Event}
use Rattle.page_host.specs.Steps.{may_be_made, with_new_node}
use Rattle.page_meaning.specs.Act.{Outcome}
use Rattle.page_meaning.specs.Events.{new_parts}
use Rattle.page_meaning.specs.Places.{built_in_count, event_prototype, event_prototype_place, node_prototype, node_prototype_place}
use Rattle.page_meaning.specs.Primitives.{make_event, make_node, next_place}
use Rattle.page_meaning.specs.Steps.{event_object, makes_event, makes_node, node_object}
use Rattle.page_meaning.specs.Store.{Store, with_both, with_heap}
use Rattle.heap_relations.proofs.Callers as heap
use Rattle.heap_relations.proofs.Callers.{larger_more}
use Rattle.heap_relations.specs.Naming.{Agree, Larger, Named, World, named, with_object}
use Rattle.heap_relations.specs.Related.{EventRel, ObjectRel, event, no_entries, none, some}
use Rattle.host_relations.proofs.Callers as host
use Rattle.host_relations.specs.Joining.{joined}
use Rattle.host_relations.specs.Linked.{Linked, with_pair}
use Rattle.object_shapes.proofs.Callers as shapes
use Rattle.agreement.specs.Acts.{ActRel, AreKept, HasBuiltIns, Ids, OutcomeRel, StoreRel, clocks_of, ended, stopped}
use Rattle.agreement.proofs.Constants.{kept_other, kept_same, older_up, placed_up}

pub node_prototype_there : node_prototype.0 ≤ built_in_count
unfolding built_in_count node_prototype_place
node_prototype_there = omega arith

pub event_prototype_there : event_prototype.0 ≤ built_in_count
unfolding built_in_count event_prototype_place
event_prototype_there = omega arith

-- what is kept does not depend on nodes
pair_kept : {W : World} {s : Store} (i j : ℕ) → AreKept W s → AreKept (with_pair W i j) s
pair_kept {W = W} i j k =
    let up : Larger W (with_pair W i j) = host.larger_pair i j in
    record {
      scopes = λ z m. let h = k.scopes z m in record { round = older_up up h.round; older = h.older; held = h.held; there = h.there };
      functions = λ a b n. placed_up up a _ (k.functions a b (record { named = n.named }));
      done = k.done;
    }

-- ---- nodes

-- the object is named, and the nodes at these places are linked
pub record NewNode (i j : ℕ) (W : World) (a b : ObjId) : Type 0 where
  pub object : Named W a.0 b.0
  pub node : Linked W i j

module _ {W : World} {s t : Store} (g : StoreRel W s t) (k : Kind) (may : may_be_made k ≡ true) where
  abbrev i : ℕ
  i = length s.host.nodes

  abbrev j : ℕ
  j = length t.host.nodes

  abbrev a : ObjId
  a = next_place s.heap

  abbrev b : ObjId
  b = next_place t.heap

  abbrev grown : World
  grown = joined W s.host t.host a b

  up : Larger W grown
  up = larger_more (host.larger_pair i j) (heap.larger_object a.0 b.0)

  heaps : Agree grown (made s.heap (node_object s)) (made t.heap (node_object t))
  heaps = host.node_objects_join W s.host t.host s.heap t.heap node_prototype node_prototype g.heap (g.built_ins node_prototype.0 node_prototype_there)

  kept : AreKept grown (with_heap s (made s.heap (node_object s)))
  kept = kept_other (pair_kept i j g.kept) b.0 (node_object s) refl (λ c d n. (g.heap.objects.inside c d (record { named = n.named })).0)

  pub node_made : (n : ℕ) → OutcomeRel (NewNode i j) W ((make_node k).run s n) ((make_node k).run t n)
  node_made n = ended grown up
      (record { object = heap.named_object a.0 b.0; node = linked })
      (record {
        heap = rw may heaps;
        lines = g.lines;
        host = host.new_nodes_join (clocks_of W) W s.host t.host k a b g.host may;
        built_ins = λ m small. heap.named_up up (g.built_ins m small);
        shaped = shapes.step_shaped s (makes_node k) g.heap.left g.shaped tt;
        kept = after (if may_be_made k then made s.heap (node_object s) else s.heap) (rw may refl);
      })
    where
      linked : Linked grown i j
      linked = record { named = (host.linked_pair W i j).named }

      after : (h : Contents) → h ≡ made s.heap (node_object s) → AreKept grown (with_both s h (with_new_node s.host k a))
      after h e = rw e (kept_same kept refl (omega arith) (λ c d n. inl refl))

-- a node of a kind that may be made
pub make_node_rel : {V : World} (k : Kind) → may_be_made k ≡ true → ActRel Ids V (make_node k) (make_node k)
make_node_rel k may = record {
  run = λ W l s t n g. by (node_made g k may n);
}
  where
    by : {W : World} {i j : ℕ} {o p : Outcome ObjId} → OutcomeRel (NewNode i j) W o p → OutcomeRel Ids W o p
    by (ended W l r g) = ended W l r.object g
    by (stopped W l g) = stopped W l g

-- ---- events

pub new_parts_rel : {W : World} → EventRel (named W) new_parts new_parts
new_parts_rel = record { kind = refl; bubbles = refl; cancelable = refl; begun = refl; sent = refl; target = none; current = none; phase = refl }

event_object_rel : {W : World} → HasBuiltIns W → ObjectRel (named W) event_object event_object
event_object_rel there = record {
  class = event new_parts_rel;
  proto = some (record { linked = there event_prototype.0 event_prototype_there });
  extensible = refl;
  closed = refl;
  props = no_entries;
}

event_made : {W : World} {s t : Store} (n : ℕ) → StoreRel W s t → OutcomeRel Ids W (make_event.run s n) (make_event.run t n)
event_made {W = W} {s = s} {t = t} n g =
    let i = length s.heap.objects in
    let j = length t.heap.objects in
    let up : Larger W (with_object W i j) = heap.larger_object i j in
    let r : ObjectRel (named W) event_object event_object = event_object_rel g.built_ins in
    ended (with_object W i j) up (heap.named_object i j) (record {
      heap = heap.objects_made W s.heap t.heap event_object event_object g.heap (new_fit (Event new_parts) (Some event_prototype)) (new_fit (Event new_parts) (Some event_prototype))
          (heap.object_up up r) r.proto none;
      lines = g.lines;
      host = host.hosts_stay (clocks_of W) W (with_object W i j) s.host t.host up refl g.host;
      built_ins = λ k small. heap.named_up up (g.built_ins k small);
      shaped = shapes.step_shaped s makes_event g.heap.left g.shaped tt;
      kept = kept_other g.kept j event_object refl (λ c d m. (g.heap.objects.inside c d m).0);
    })

pub make_event_rel : {V : World} → ActRel Ids V make_event make_event
make_event_rel = record { run = λ W l s t n g. event_made n g }
