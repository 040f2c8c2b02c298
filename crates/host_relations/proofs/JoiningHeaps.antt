-- The objects of new nodes join a naming.
use Rattle.std.proofs.Common.{refl, ℕ, length, Some}
use Rattle.js_values.specs.declared.ids.ObjId.{ObjId}
use Rattle.object_heap.proofs.Callers.{new_fit}
use Rattle.object_heap.specs.declared.object.Class.TheVariants as class
use Rattle.object_heap.specs.Heap.{new_object}
use Rattle.object_heap.specs.Object.{Object}
use Rattle.heap_relations.proofs.Callers as heap
use Rattle.heap_relations.specs.Naming.{Larger, here}
use Rattle.heap_relations.specs.Related.{no_entries, node, none, some}
use Rattle.host_relations.proofs.Larger.{pair_more}
use Rattle.host_relations.specs.Joining.{NodeObjectsJoin}
use Rattle.host_relations.specs.Linked.{with_pair}

pub node_objects_join : NodeObjectsJoin
node_objects_join W h g s t p r agree named =
    let i : ℕ = length h.nodes in
    let j : ℕ = length g.nodes in
    let more : Larger W (with_pair W i j) = pair_more W i j in
    heap.objects_made (with_pair W i j) s t (class_object i p) (class_object j r) (heap.agree_same more refl refl agree) (new_fit (class.Node (record { 0 = i })) (Some p))
    (new_fit (class.Node (record { 0 = j })) (Some r))
    (record {
      class = node (record { named = here });
      proto = some (record { linked = heap.named_up (heap.larger_more more (heap.larger_object (length s.objects) (length t.objects))) named });
      extensible = refl;
      closed = refl;
      props = no_entries;
    })
    (some (record { linked = heap.named_up more named })) none
  where
    class_object : ℕ → ObjId → Object
    class_object k at = new_object (class.Node (record { 0 = k })) (Some at)
