-- A node whose content, children and listeners are rebuilt is saved as the thing is.
use Rattle.std.proofs.Common.{◌≡◌, refl, ap, ◌∙◌, ℕ, List, [], ◌∷◌, Some}
use Rattle.dom_tree.specs.Node.{children_at, node_at}
use Rattle.dom_tree.specs.declared.content.Content.{Content}
use Rattle.heap_relations.specs.Related.{Each, each, no_more}
use Rattle.heap_walker.specs.Things.{heard_at}
use Rattle.host_relations.specs.Nodes.{NodeIds}
use Rattle.js_values.specs.declared.ids.NodeId.{NodeId}
use Rattle.js_values.specs.declared.ids.ObjId.{ObjId}
use Rattle.object_heap.specs.declared.object.Class.TheVariants as class
use Rattle.page_host.specs.Host.{Host, object_of_node}
use Rattle.page_meaning.specs.Store.{Store}
use Rattle.rebuild_plan.specs.Moved.{moved}
use Rattle.rebuild_plan.specs.Nodes.{SavedListener, moved_listeners, moved_nodes, node_as}
use Rattle.rebuilding.specs.Rebuilt.{kind_as, sited_ids, sited_listeners, sited_node}
use Rattle.rebuilding.specs.Sites.{sited}
use Rattle.rebuilding.proofs.ListenPhase.{heard_as}

-- linked nodes have objects that the plan names by the same places
abbrev pub OwnPlaces : List ℕ → List ℕ → List ObjId → List ObjId → (ℕ → ℕ → Type 0) → Type 0
OwnPlaces things sites saved objects N = (a b : NodeId) → N a.0 b.0 → object_of_node objects b ≡ sited sites (moved things (object_of_node saved a))

children_as : (things sites : List ℕ) (saved objects : List ObjId) (N : ℕ → ℕ → Type 0) → OwnPlaces things sites saved objects N → (xs ys : List NodeId)
    → Each (NodeIds N) xs ys → moved_nodes [] objects ys ≡ sited_ids sites (moved_nodes things saved xs)
children_as things sites saved objects N own _ _ no_more = refl
children_as things sites saved objects N own _ _ (each {a = a} {b = b} {xs = xs} {ys = ys} l ls) =
    let later = children_as things sites saved objects N own xs ys ls in (λ i. own a b l.linked i ∷ later i)

listeners_as : (k : NodeId) (sites : List ℕ) (ls : List SavedListener) → moved_listeners [] (heard_as k sites ls) ≡ sited_listeners sites ls
listeners_as k sites [] = refl
listeners_as k sites (l ∷ ls) = let later = listeners_as k sites ls in (λ i. record { kind = l.kind; call = sited sites l.call; capture = l.capture } ∷ later i)

module _ (s : Store) (g : Host) (things sites : List ℕ) (N : ℕ → ℕ → Type 0) (own : OwnPlaces things sites s.host.objects g.objects N) (a b : NodeId)
    (content : (node_at g.nodes b.0).content ≡ (node_at s.host.nodes a.0).content) where
  pub node_rebuilt : (k : NodeId) → Each (NodeIds N) (children_at s.host.nodes a.0) (children_at g.nodes b.0)
      → heard_at b.0 g.listeners ≡ heard_as k sites (moved_listeners things (heard_at a.0 s.host.listeners))
      → node_as g [] (class.Node b) ≡ sited_node sites (node_as s.host things (class.Node a))
  node_rebuilt k kids heard =
      let children = children_as things sites s.host.objects g.objects N own (children_at s.host.nodes a.0) (children_at g.nodes b.0) kids in
      let listeners = ap (moved_listeners []) heard ∙ listeners_as k sites (moved_listeners things (heard_at a.0 s.host.listeners)) in
      (λ i. record { attributes = (content i).attributes; value = (content i).value; children = children i; listeners = listeners i })

  pub kind_rebuilt : kind_as g (class.Node b) ≡ kind_as s.host (class.Node a)
  kind_rebuilt = ap (λ (q : Content). Some q.kind) content
