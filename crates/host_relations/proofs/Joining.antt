-- New nodes and their objects join a naming.
use Rattle.std.proofs.Common.{◌≡◌, ◌⊎◌, inl, inr, refl, sym, ap, ◌∙◌, ℕ, suc, ◌<◌, true, false, nat_eq, List, [], ◌∷◌, ◌++◌, length, slice_index_or, None, arith}
use Rattle.std.proofs.lemmas.Bool.{ne_eqb}
use Rattle.std.proofs.lemmas.List.{get_or_append_left, get_or_push}
use Rattle.std.proofs.lemmas.List.Elements.{All-head, All-tail, All-weaker}
use Rattle.std.specs.List.{All}
use Rattle.js_values.specs.declared.ids.NodeId.{NodeId}
use Rattle.js_values.specs.declared.ids.ObjId.{ObjId}
use Rattle.dom_tree.proofs.Callers.{new_nodes_stay_sound}
use Rattle.dom_tree.specs.declared.content.Kind.{Kind}
use Rattle.dom_tree.specs.Content.{new_content}
use Rattle.dom_tree.specs.Node.{Nodes, with_new}
use Rattle.page_host.specs.declared.listener.Listener.{Listener}
use Rattle.page_host.specs.Host.{Host, no_object, object_of_node, with_node}
use Rattle.page_host.specs.Steps.{may_be_made, with_new_node}
use Rattle.heap_relations.proofs.Callers as heap
use Rattle.heap_relations.proofs.Callers.{larger_more}
use Rattle.heap_relations.specs.Naming.{Larger, Named, World, here}
use Rattle.heap_relations.specs.Related.{Each, no_more}
use Rattle.host_relations.proofs.Larger.{heard_up, nodes_up, pair_more, timers_up}
use Rattle.host_relations.proofs.NodePairs.{new_nodes_agree, one_longer, which}
use Rattle.host_relations.specs.Hosts.{HostRel, IsOrderly, ListenerRel, ListenersRel, heard_at}
use Rattle.host_relations.specs.Joining.{NewNodesJoin, joined}
use Rattle.host_relations.specs.Linked.{Linked}
use Rattle.host_relations.specs.Timers.{Clocks}

-- no listener is of a node that is not there
none_heard : (k : ℕ) (ls : List Listener) → All (λ l. l.node.0 < k) ls → heard_at k ls ≡ []
none_heard k [] all = refl
none_heard k (l ∷ ls) all =
    let low : l.node.0 < k = All-head (λ m. m.node.0 < k) l ls all in
    let other : nat_eq k l.node.0 ≡ false = ne_eqb k l.node.0 (λ e. omega (arith, low, e)) in
    rw other (none_heard k ls (All-tail (λ m. m.node.0 < k) l ls all))

orderly_more : (t : Nodes) (objects : List ObjId) (ls : List Listener) (k : Kind) (a : ObjId) → IsOrderly t objects ls → IsOrderly (with_new t (new_content k)) (objects ++ a ∷ []) ls
orderly_more t objects ls k a o =
    let long : length (with_new t (new_content k)) ≡ suc (length t) = one_longer t (record { content = new_content k; parent = None; children = [] }) in
    record {
      trees = (new_nodes_stay_sound t k).trees o.trees;
      objects = one_longer objects a ∙ ap suc o.objects ∙ sym long;
      listeners = All-weaker (λ l. l.node.0 < length t) (λ l. l.node.0 < length (with_new t (new_content k))) (λ l low. omega (arith, low, long)) ls o.listeners;
    }

module _ (c : Clocks) (W : World) (h g : Host) (q : HostRel c W h g) (a b : ObjId) where
  abbrev U : World
  U = joined W h g a b

  up : Larger W U
  up = larger_more (pair_more W (length h.nodes) (length g.nodes)) (heap.larger_object a.0 b.0)

  objects : (x y : NodeId) → Linked U x.0 y.0 → Named U (object_of_node (h.objects ++ a ∷ []) x).0 (object_of_node (g.objects ++ b ∷ []) y).0
  objects x y m = by (which W (length h.nodes) (length g.nodes) x.0 y.0 (record { named = m.named }))
    where
      by : ((x.0 ≡ length h.nodes) × (y.0 ≡ length g.nodes)) ⊎ Linked W x.0 y.0
          → Named U (slice_index_or (h.objects ++ a ∷ []) x.0 no_object).0 (slice_index_or (g.objects ++ b ∷ []) y.0 no_object).0
      by (inr n) =
          let inside = q.nodes.inside x.0 y.0 n in
          rw (get_or_append_left h.objects (a ∷ []) no_object x.0 (omega (arith, inside.0, q.left.objects)), get_or_append_left g.objects (b ∷ []) no_object y.0 (omega (arith, inside.1, q.right.objects)))
          (heap.named_up up (q.objects x y n))
      by (inl e) = rw (e.0 ∙ sym q.left.objects, e.1 ∙ sym q.right.objects, get_or_push h.objects a no_object (length h.objects) refl, get_or_push g.objects b no_object (length g.objects) refl) (record { named = here })

  listeners : ListenersRel U h.listeners g.listeners
  listeners x y m = by (which W (length h.nodes) (length g.nodes) x y (record { named = m.named }))
    where
      by : ((x ≡ length h.nodes) × (y ≡ length g.nodes)) ⊎ Linked W x y → Each (ListenerRel U) (heard_at x h.listeners) (heard_at y g.listeners)
      by (inr n) = heard_up up (q.listeners x y n)
      by (inl e) = rw (e.0, e.1, none_heard (length h.nodes) h.listeners q.left.listeners, none_heard (length g.nodes) g.listeners q.right.listeners) no_more

  with_node_rel : (k : Kind) → HostRel c U (with_node h (with_new h.nodes (new_content k)) a) (with_node g (with_new g.nodes (new_content k)) b)
  with_node_rel k = record {
    nodes = nodes_up (heap.larger_object a.0 b.0) refl (new_nodes_agree W h.nodes g.nodes (new_content k) q.nodes);
    left = orderly_more h.nodes h.objects h.listeners k a q.left;
    right = orderly_more g.nodes g.objects g.listeners k b q.right;
    objects = objects;
    listeners = listeners;
    timers = timers_up up q.timers;
    clock = q.clock;
  }

  host_joins : (k : Kind) → may_be_made k ≡ true → HostRel c U (with_new_node h k a) (with_new_node g k b)
  host_joins k made = rw made (with_node_rel k)

pub new_nodes_join : NewNodesJoin
new_nodes_join c W h g k a b q made = host_joins c W h g q a b k made
