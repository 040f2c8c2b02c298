-- The phases of children and of contents in a row: the nodes mean what the saved ones mean.
use Rattle.std.proofs.Common.{◌≡◌, ◌⊎◌, inl, inr, refl, sym, ap, subst, ◌∙◌, ℕ, ◌<◌, true, nat_eq, List, ◌∷◌, ◌++◌, length, arith}
use Rattle.std.proofs.lemmas.Bool.{eqb-true, or_cases}
use Rattle.dom_tree.specs.Content.{new_content}
use Rattle.dom_tree.specs.Node.{Nodes, children_at, has, node_at, parent_at}
use Rattle.heap_relations.specs.Naming.{World}
use Rattle.heap_relations.specs.Related.{Each, Maybe}
use Rattle.heap_walker.specs.Still.{Still}
use Rattle.host_relations.specs.Linked.{Linked}
use Rattle.host_relations.specs.Nodes.{NodeIds, NodeRel, NodesRel}
use Rattle.js_values.specs.declared.ids.NodeId.{NodeId}
use Rattle.object_heap.specs.Chain.{object_at}
use Rattle.object_heap.specs.Environment.{Environment}
use Rattle.object_heap.specs.Heap.{Contents}
use Rattle.object_heap.specs.declared.object.Class.{Class}
use Rattle.object_heap.specs.declared.object.Class.TheVariants as class
use Rattle.page_host.specs.Host.{Host, with_nodes}
use Rattle.page_meaning.specs.Places.{document}
use Rattle.page_meaning.specs.Store.{Store}
use Rattle.page_writer.specs.Frame.{nth_node}
use Rattle.rebuild_plan.proofs.Callers.{all_nodes}
use Rattle.rebuild_plan.specs.Compact.{compact}
use Rattle.rebuild_plan.specs.Plan as plan
use Rattle.rebuild_plan.specs.declared.phase.Phase.TheVariants as phase
use Rattle.rebuild_plan.specs.declared.statement.Rebuild.{Rebuild}
use Rattle.rebuilding.specs.Rebuilt.{ClassIsRebuilt, Succeeds, bound, event, fault, list, node, nth, page, plain}
use Rattle.rebuilding.specs.Running.{node_here}
use Rattle.rebuilding.specs.Scene.{IsHosting, IsRunning, Scene}
use Rattle.rebuilding.proofs.Bared.{bared, bared_at, bared_long}
use Rattle.rebuilding.proofs.ChildModel.{AreAlone, IsFamily, children_succeed, root_place_is, thing_place_is}
use Rattle.rebuilding.proofs.ChildPhase.{Keeps, counterpart}
use Rattle.rebuilding.proofs.ContentPhase.{CanHave, ContentsDone, content_as, contents_succeed}
use Rattle.rebuilding.proofs.NodesAt.{NodesStand, document_node, thing_node}
use Rattle.rebuilding.proofs.OwnObjects.{IsNodeOn, OwnObjects, own_kept}
use Rattle.rebuilding.proofs.SavedNodes.{IsLinked, in_pair, more_has, node_found, node_listed, nodes_world, pair_in, whole_rest}

-- what is a node after it was rebuilt was one before
pub record WasNode (C : Class) : Type 0 where
  pub node : NodeId
  pub is : C ≡ class.Node node

pub was_node : {c : Scene} {es : List Environment} {s : Store} {things sites : List ℕ} {k : ℕ} {C D : Class} (b : NodeId)
    → ClassIsRebuilt c es s things sites k C D → D ≡ class.Node b → WasNode C
was_node b plain e = absurd (cc)
was_node b list e = absurd (cc)
was_node b fault e = absurd (cc)
was_node b (page round) e = absurd (cc)
was_node b bound e = absurd (cc)
was_node b (node {a = a}) e = record { node = a; is = refl }
was_node b event e = absurd (cc)

pub can_have : (s : Store) → Still s → (C : Class) → CanHave (content_as s C)
can_have s still (class.Node a) = record { proper = still.shaped.host.sound.nodes.proper a.0; plain = still.plain a.0 }
can_have s still (class.Event a) = record { proper = refl; plain = refl }
can_have s still class.Plain = record { proper = refl; plain = refl }
can_have s still class.List = record { proper = refl; plain = refl }
can_have s still class.Fault = record { proper = refl; plain = refl }
can_have s still (class.Page a b) = record { proper = refl; plain = refl }
can_have s still (class.Bound a b d) = record { proper = refl; plain = refl }
can_have s still (class.Native a) = record { proper = refl; plain = refl }
can_have s still class.Math = record { proper = refl; plain = refl }
can_have s still class.Window = record { proper = refl; plain = refl }

module _ (c : Scene) (End : Contents → Host → List ℕ → Type 0) (h : Contents) (s : Store) (things sites : List ℕ) (first : Host) (running : IsRunning c h sites)
    (count : length sites ≡ length things) (nodes : NodesStand h sites) (own : OwnObjects h first sites) (family : IsFamily s things)
    (lonely : AreAlone h first s things sites) (W : World)
    (classes : (n : ℕ) → n < length things
    → ClassIsRebuilt c h.environments s things sites (nth sites n) (object_at s.heap.objects (nth things n)).class (object_at h.objects (nth sites n)).class) where
  abbrev t : Nodes
  t = s.host.nodes

  abbrev known : List NodeId
  known = nth_node 0 ∷ all_nodes s things

  abbrev f : NodeId → NodeId
  f = counterpart h s things sites

  abbrev N : ℕ → ℕ → Type 0
  N = Linked (nodes_world W f known)

  -- the counterpart of a thing's node is that at its site
  f_is : (n b : ℕ) (a : NodeId) → n < length things → (object_at s.heap.objects (nth things n)).class ≡ class.Node a → IsNodeOn h (nth sites n) b → f a ≡ nth_node b
  f_is n b a inside is on =
      ap (node_here h sites) (thing_place_is c End h s things sites first running count nodes own family lonely n a inside is)
      ∙ (thing_node c h first sites running own nodes n b (omega (arith, inside, count)) on).0

  f_root : f (nth_node 0) ≡ nth_node 0
  f_root =
      ap (node_here h sites) (root_place_is c End h s things sites first running count nodes own family lonely) ∙ (document_node c h first sites running own).0

  pub linked : (n b : ℕ) (a : NodeId) → n < length things → (object_at s.heap.objects (nth things n)).class ≡ class.Node a → IsNodeOn h (nth sites n) b
      → Linked (nodes_world W (counterpart h s things sites) (nth_node 0 ∷ all_nodes s things)) a.0 b
  linked n b a inside is on =
      subst (λ j. N a.0 j) (ap (λ (m : NodeId). m.0) (f_is n b a inside is on))
      (record { named = in_pair f known a (more_has a.0 (nth_node 0) (all_nodes s things) (node_listed s things things 0 n a (whole_rest things) (omega arith) inside is)) })

  content_class : (n : ℕ) (a : NodeId) → (object_at s.heap.objects (nth things n)).class ≡ class.Node a
      → content_as s (object_at s.heap.objects (nth things n)).class ≡ (node_at t a.0).content
  content_class n a is = ap (content_as s) is

  -- after both
  grown : (j i : Host) → NodesRel N (bared t) j.nodes → (own_j : OwnObjects h j sites)
      → ContentsDone c End h sites s things j running count nodes own_j i → NodesRel N t i.nodes
  grown j i rel own_j done = record {
    at = at;
    inside =
        λ a b l. let low = rel.inside a b l in
        (omega (arith, low.0, bared_long t), omega (arith, low.1, done.kept.long));
    same = rel.same;
    document = rel.document;
  }
    where
      content : (a b : ℕ) → N a b → (node_at t a).content ≡ (node_at i.nodes b).content
      content a b l = by (or_cases (nat_eq p.node.0 0) (has p.node.0 (all_nodes s things)) p.among)
        where
          p : IsLinked f known a b
          p = pair_in f known a b l.named

          by : (nat_eq p.node.0 0 ≡ true) ⊎ (has p.node.0 (all_nodes s things) ≡ true) → (node_at t a).content ≡ (node_at i.nodes b).content
          by (inl e) =
              let zero_is : p.node.0 ≡ 0 = eqb-true p.node.0 0 e in
              let right : 0 ≡ b = sym (ap (λ (m : NodeId). m.0) f_root) ∙ ap (λ m. (f (nth_node m)).0) (sym zero_is) ∙ p.right in
              ap (λ m. (node_at t m).content) (sym p.left ∙ zero_is) ∙ sym (done.first_node ∙ ap (content_as s) family.root)
              ∙ ap (λ m. (node_at i.nodes m).content) right
          by (inr more) =
              let q = node_found s things things 0 p.node.0 (whole_rest things) more in
              let found = lonely.node q.number p.node q.inside q.class in
              let right : found.0 ≡ b = sym (ap (λ (m : NodeId). m.0) (f_is q.number found.0 p.node q.inside q.class found.1)) ∙ p.right in
              ap (λ m. (node_at t m).content) (sym p.left)
              ∙ sym (done.done q.number found.0 q.inside q.inside found.1 ∙ content_class q.number p.node q.class)
              ∙ ap (λ m. (node_at i.nodes m).content) right

      at : (a b : ℕ) → N a b → NodeRel N (node_at t a) (node_at i.nodes b)
      at a b l = record {
        content = content a b l;
        parent = subst (λ x. Maybe (NodeIds N) x (parent_at i.nodes b)) (bared_at t a).parent
            (subst (λ y. Maybe (NodeIds N) (parent_at (bared t) a) y) (sym (done.kept.parents b)) (rel.at a b l).parent);
        children = subst (λ x. Each (NodeIds N) x (children_at i.nodes b)) (bared_at t a).children
            (subst (λ y. Each (NodeIds N) (children_at (bared t) a) y) (sym (done.kept.children b)) (rel.at a b l).children);
      }

  -- nodes alone change, and they are those of the saved page
  pub nodes_succeed : (rs : List Rebuild) → IsHosting h first
      → ((j : Host) → IsHosting h j → Keeps first j → NodesRel (Linked (nodes_world W (counterpart h s things sites) (nth_node 0 ∷ all_nodes s things))) s.host.nodes j.nodes
      → Succeeds c End h j sites rs)
      → Succeeds c End h first sites (plan.whole phase.Children (compact s things) ++ (plan.whole phase.Contents (compact s things) ++ rs))
  nodes_succeed rs hosting later =
      children_succeed c End h s things sites first running count nodes own family lonely W (plan.whole phase.Contents (compact s things) ++ rs) hosting
      (λ j now kept rel.
      let own_j : OwnObjects h j sites = own_kept h first j sites (ap (λ (v : Host). v.objects) kept.0) kept.1 own in
      contents_succeed c End h sites s things j running count nodes own_j rs classes
      (λ n b inside on. can_have s family.still (object_at s.heap.objects (nth things n)).class)
      (λ n b inside on. begins j rel n b inside on)
      (can_have s family.still (object_at s.heap.objects document.0).class)
      (sym (rel.at 0 0 rel.document).content ∙ (bared_at t 0).content ∙ ap (λ C. new_content (content_as s C).kind) (sym family.root))
      now
      (λ i then' done. later i then' (done.kept.host ∙ ap (λ v. with_nodes v i.nodes) kept.0, done.kept.long ∙ kept.1) (grown j i rel own_j done)))
    where
      begins : (j : Host) → NodesRel N (bared t) j.nodes → (n b : ℕ) → n < length things → IsNodeOn h (nth sites n) b
          → (node_at j.nodes b).content ≡ new_content (content_as s (object_at s.heap.objects (nth things n)).class).kind
      begins j rel n b inside on =
          let was = was_node (nth_node b) (classes n inside) on in
          sym (rel.at was.node.0 b (linked n b was.node inside was.is on)).content ∙ (bared_at t was.node.0).content
          ∙ ap (λ C. new_content (content_as s C).kind) (sym was.is)
