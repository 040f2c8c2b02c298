-- Once all things are made, each node is alone: those of the things, and the document.
use Rattle.std.proofs.Common.{◌≡◌, refl, sym, ap, subst, ◌∙◌, ℕ, true, List, [], None}
use Rattle.dom_tree.specs.Node.{is_document, kind_at, node_at}
use Rattle.dom_tree.specs.declared.content.Kind.{Kind}
use Rattle.dom_tree.specs.declared.content.Kind.TheVariants as content
use Rattle.heap_walker.specs.Still.{Still}
use Rattle.js_values.specs.declared.ids.NodeId.{NodeId}
use Rattle.object_heap.specs.Chain.{object_at}
use Rattle.object_heap.specs.Environment.{Environment}
use Rattle.object_heap.specs.Heap.{Contents}
use Rattle.object_heap.specs.declared.object.Class.{Class}
use Rattle.object_heap.specs.declared.object.Class.TheVariants as class
use Rattle.page_host.specs.Host.{Host}
use Rattle.page_meaning.specs.Store.{Store}
use Rattle.page_writer.specs.Frame.{bare_node, nth_node}
use Rattle.rebuilding.specs.Rebuilt.{ClassIsRebuilt, bound, event, fault, list, node, nth, page, plain}
use Rattle.rebuilding.specs.Running.{node_of_class}
use Rattle.rebuilding.specs.Scene.{Scene}
use Rattle.rebuilding.proofs.ChildModel.{AreAlone}
use Rattle.rebuilding.proofs.Stages.{Made, MadeHost}

-- a thing that is a node stands as one
node_stands : {c : Scene} {es : List Environment} {s : Store} {things sites : List ℕ} {j : ℕ} (A B : Class) (k : NodeId) → ClassIsRebuilt c es s things sites j A B
    → A ≡ class.Node k → (b : ℕ) × (B ≡ class.Node (nth_node b))
node_stands _ _ k (node {b = b}) is = (b.0, refl)
node_stands _ _ k plain is = absurd (cc is)
node_stands _ _ k list is = absurd (cc is)
node_stands _ _ k fault is = absurd (cc is)
node_stands _ _ k (page round) is = absurd (cc is)
node_stands _ _ k bound is = absurd (cc is)
node_stands _ _ k event is = absurd (cc is)

only_document : (k : Kind) → is_document k ≡ true → k ≡ content.Document
only_document content.Document is = refl
only_document (content.Element x) is = cc is
only_document (content.Text x) is = cc is
only_document (content.Comment x) is = cc is

pub lonely : (c : Scene) (s : Store) (things : List ℕ) (h : Contents) (g : Host) (sites : List ℕ) → Still s → Made c s things h g sites
    → AreAlone h g s things sites
lonely c s things h g sites still made = record {
  node = λ n k inside is. node_stands (object_at s.heap.objects (nth things n)).class (object_at h.objects (nth sites n)).class k (made.each n inside).class is;
  bare = λ n k b inside is on.
      ap (λ (d : Class). node_at g.nodes (node_of_class d).0) (sym on)
      ∙ subst (λ (a : Class). MadeHost s g a (object_at h.objects (nth sites n)).class) is (made.hosted n inside);
  document = made.cleared.alone
      ∙ ap (λ (k : Kind). bare_node k None []) (sym (only_document (kind_at s.host.nodes 0) (still.shaped.host.sound.nodes.document 0)));
}
