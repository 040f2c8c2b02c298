-- Nodes as their makers leave them: without properties, and alone.
use Rattle.std.proofs.Common.{◌≡◌, ap, subst, ◌∙◌, ℕ, ◌<◌, List, Some, length, arith}
use Rattle.heap_walker.specs.Still.{Still}
use Rattle.heap_walker.specs.Things.{IsWalk}
use Rattle.object_heap.specs.Chain.{object_at}
use Rattle.object_heap.specs.Heap.{Contents}
use Rattle.object_heap.specs.Object.{Object}
use Rattle.object_heap.specs.declared.object.Class.TheVariants as class
use Rattle.object_shapes.specs.Shapes.{HasShape}
use Rattle.page_host.specs.Host.{Host}
use Rattle.page_meaning.specs.Places.{node_prototype}
use Rattle.page_meaning.specs.Store.{Store}
use Rattle.page_writer.specs.Frame.{nth_node}
use Rattle.rebuild_plan.specs.Compact.{moved_proto}
use Rattle.rebuilding.specs.Rebuilt.{nth}
use Rattle.rebuilding.specs.Scene.{Scene}
use Rattle.rebuilding.specs.Sites.{sited_proto}
use Rattle.rebuilding.proofs.NodesAt.{NodesStand}
use Rattle.rebuilding.proofs.NodesGrown.{was_node}
use Rattle.rebuilding.proofs.OwnObjects.{IsNodeOn}
use Rattle.rebuilding.proofs.Placed.{is_thing_at, node_low, proto_built_in}
use Rattle.rebuilding.proofs.Stages.{Made, MadeProps}

pub nodes_stand : (c : Scene) (s : Store) (things : List ℕ) (h : Contents) (g : Host) (sites : List ℕ) → Still s → IsWalk s things → Made c s things h g sites
    → NodesStand h sites
nodes_stand c s things h g sites still walk made = record {
  proto = λ n k inside on. proto n k (low n inside) on;
  props = λ n k inside on.
      let was = was_node (nth_node k) (made.each n (low n inside)).class on in
      subst (λ C. MadeProps C (object_at s.heap.objects (nth things n)).props (object_at h.objects (nth sites n)).props) was.is (made.each n (low n inside)).props;
  document_props = made.document_props;
}
  where
    low : (n : ℕ) → n < length sites → n < length things
    low n inside = omega (arith, inside, made.count)

    proto : (n k : ℕ) → n < length things → IsNodeOn h (nth sites n) k → (object_at h.objects (nth sites n)).proto ≡ Some node_prototype
    proto n k inside on =
        let thing : Object = object_at s.heap.objects (nth things n) in
        let was = was_node (nth_node k) (made.each n inside).class on in
        let shape : HasShape s thing (class.Node was.node) = subst (HasShape s thing) was.is (still.shaped.made (nth things n) (is_thing_at s things n walk inside)) in
        (made.each n inside).proto ∙ ap (λ p. sited_proto sites (moved_proto things p)) shape.0 ∙ proto_built_in s things sites node_prototype.0 walk node_low
