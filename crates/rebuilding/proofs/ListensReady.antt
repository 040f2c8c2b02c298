-- The listeners of each thing that is a node, and of the document, can be added again.
use Rattle.std.proofs.Common.{◌≡◌, refl, sym, subst, ℕ, ◌<◌, List, [], length, arith}
use Rattle.heap_walker.specs.Still.{Still}
use Rattle.heap_walker.specs.Things.{IsWalk, heard_at}
use Rattle.host_relations.proofs.Callers.{AreNew}
use Rattle.js_values.specs.declared.ids.NodeId.{NodeId}
use Rattle.object_heap.specs.Chain.{object_at}
use Rattle.object_heap.specs.Heap.{Contents}
use Rattle.object_heap.specs.declared.object.Class.{Class}
use Rattle.object_heap.specs.declared.object.Class.TheVariants as class
use Rattle.page_meaning.specs.Places.{document}
use Rattle.page_meaning.specs.Store.{Store}
use Rattle.page_writer.specs.Frame.{nth_node}
use Rattle.rebuild_plan.proofs.Callers.{all_nodes}
use Rattle.rebuild_plan.specs.Compact.{thing_at}
use Rattle.rebuild_plan.specs.Nodes.{node_as}
use Rattle.rebuilding.specs.Rebuilt.{ClassIsRebuilt, nth}
use Rattle.rebuilding.specs.Scene.{IsRunning, Scene}
use Rattle.rebuilding.proofs.Families.{family, heard_known}
use Rattle.rebuilding.proofs.Hearable.{AreKnown, node_can_hear, node_hears_new}
use Rattle.rebuilding.proofs.ListenPhase.{CanHear, heard_as}
use Rattle.rebuilding.proofs.SavedNodes.{first_has, more_has, node_listed, whole_rest}

module _ (c : Scene) (i : Contents) (s : Store) (things sites : List ℕ) (running : IsRunning c i sites) (count : length sites ≡ length things)
    (still : Still s) (walk : IsWalk s things)
    (classes : (n : ℕ) → n < length things
    → ClassIsRebuilt c i.environments s things sites (nth sites n) (object_at s.heap.objects (nth things n)).class (object_at i.objects (nth sites n)).class) where
  root_class : (object_at s.heap.objects document.0).class ≡ class.Node (nth_node 0)
  root_class = (family s things still walk).root

  known_at : (n : ℕ) (a : NodeId) → n < length things → (object_at s.heap.objects (nth things n)).class ≡ class.Node a → AreKnown things (heard_at a.0 s.host.listeners)
  known_at n a inside is =
      heard_known s things still walk a
      (more_has a.0 (nth_node 0) (all_nodes s things) (node_listed s things things 0 n a (whole_rest things) (omega arith) inside is))

  known_first : AreKnown things (heard_at 0 s.host.listeners)
  known_first = heard_known s things still walk (nth_node 0) (first_has (nth_node 0) (all_nodes s things))

  -- each calls a function that stands
  pub things_can : (n : ℕ) → n < length things → CanHear i sites (thing_at s things (nth things n)).node.listeners
  things_can n inside = by (object_at s.heap.objects (nth things n)).class refl
    where
      by : (C : Class) → (object_at s.heap.objects (nth things n)).class ≡ C → CanHear i sites (node_as s.host things C).listeners
      by (class.Node a) is = node_can_hear c i s things sites running count still walk root_class classes a (known_at n a inside is)
      by (class.Event parts) is = tt
      by class.Plain is = tt
      by class.List is = tt
      by class.Fault is = tt
      by (class.Page body env) is = tt
      by (class.Bound target this args) is = tt
      by (class.Native which) is = tt
      by class.Math is = tt
      by class.Window is = tt

  -- and none stands twice at its node
  pub things_new : (n : ℕ) (k : NodeId) → n < length things → AreNew [] (heard_as k sites (thing_at s things (nth things n)).node.listeners)
  things_new n k inside = by (object_at s.heap.objects (nth things n)).class refl
    where
      by : (C : Class) → (object_at s.heap.objects (nth things n)).class ≡ C → AreNew [] (heard_as k sites (node_as s.host things C).listeners)
      by (class.Node a) is = node_hears_new c i s things sites running count still walk root_class classes k a (known_at n a inside is)
      by (class.Event parts) is = tt
      by class.Plain is = tt
      by class.List is = tt
      by class.Fault is = tt
      by (class.Page body env) is = tt
      by (class.Bound target this args) is = tt
      by (class.Native which) is = tt
      by class.Math is = tt
      by class.Window is = tt

  pub document_can : CanHear i sites (thing_at s things document.0).node.listeners
  document_can =
      subst (λ C. CanHear i sites (node_as s.host things C).listeners) (sym root_class)
      (node_can_hear c i s things sites running count still walk root_class classes (nth_node 0) known_first)

  pub document_new : (k : NodeId) → AreNew [] (heard_as k sites (thing_at s things document.0).node.listeners)
  document_new k =
      subst (λ C. AreNew [] (heard_as k sites (node_as s.host things C).listeners)) (sym root_class)
      (node_hears_new c i s things sites running count still walk root_class classes k (nth_node 0) known_first)
