-- What nodes, events and timers refer to is there.
use Rattle.std.proofs.Common.{◌≡◌, ◌⊎◌, inl, inr, refl, sym, ap, ◌∙◌, ℕ, ◌<◌, ◌≤◌, Bool, true, false, List, [], ◌∷◌, ◌++◌, Option, Some, None, length, nat_eq}
use Rattle.std.proofs.lemmas.Bool.{cases_lt, eq-eqb, lt-ltb}
use Rattle.std.proofs.lemmas.List.Elements.{All-head, All-tail}
use Rattle.dom_tree.proofs.Callers.{child_in, parent_in}
use Rattle.dom_tree.specs.Node.{children_at, has, parent_at}
use Rattle.js_values.specs.declared.ids.NodeId.{NodeId}
use Rattle.js_values.specs.declared.ids.ObjId.{ObjId}
use Rattle.object_heap.proofs.Callers.{object_absent}
use Rattle.object_heap.specs.declared.object.Class.{Class}
use Rattle.object_heap.specs.declared.object.Class.TheVariants as class
use Rattle.object_shapes.proofs.Callers.{below_join, below_parts}
use Rattle.object_shapes.specs.Hosted.{CallsFunctions, CanBeCalled, IsHosted}
use Rattle.object_shapes.specs.Links.{all_below, event_links, proto_links}
use Rattle.page_host.specs.Host.{object_of_node}
use Rattle.page_host.specs.declared.listener.Listener.{Listener}
use Rattle.page_meaning.specs.Classes.{class_at, is_callable_class}
use Rattle.page_meaning.specs.Store.{Store}
use Rattle.timer_queue.specs.declared.timer.Live.{Live}
use Rattle.heap_walker.specs.Things.{calls_links, heard_at, host_links, node_links, nodes_links, parent_links, timers_links}

below_one : (n k : ℕ) → k < n → all_below n (k ∷ []) ≡ true
below_one n k h = rw (lt-ltb k n h) refl

below_next : (n k : ℕ) (ks : List ℕ) → k < n → all_below n ks ≡ true → all_below n (k ∷ ks) ≡ true
below_next n k ks h others = rw (lt-ltb k n h) others

-- where nothing is there is no node's object, and nothing that can be called
node_there : (s : Store) (at : ObjId) (k : NodeId) → class_at s at ≡ class.Node k → at.0 < length s.heap.objects
node_there s at k e = by (cases_lt at.0 (length s.heap.objects))
  where
    by : (at.0 < length s.heap.objects) ⊎ (length s.heap.objects ≤ at.0) → at.0 < length s.heap.objects
    by (inl h) = h
    by (inr h) = let none = ap (λ o. o.class) (object_absent s.heap.objects at.0 h) in cc (sym none ∙ e)

call_there : (s : Store) (at : ObjId) → is_callable_class (class_at s at) ≡ true → at.0 < length s.heap.objects
call_there s at e = by (cases_lt at.0 (length s.heap.objects))
  where
    by : (at.0 < length s.heap.objects) ⊎ (length s.heap.objects ≤ at.0) → at.0 < length s.heap.objects
    by (inl h) = h
    by (inr h) = let none = ap (λ o. is_callable_class o.class) (object_absent s.heap.objects at.0 h) in cc (sym none ∙ e)

module _ (s : Store) (hosted : IsHosted s) where
  object_there : (k : NodeId) → k.0 < length s.host.nodes → (object_of_node s.host.objects k).0 < length s.heap.objects
  object_there k h = node_there s (object_of_node s.host.objects k) k (hosted.object_of k.0 h)

  parent_below : (k : ℕ) (p : Option NodeId) → parent_at s.host.nodes k ≡ p → all_below (length s.heap.objects) (parent_links s.host.objects p) ≡ true
  parent_below k None e = refl
  parent_below k (Some p) e =
      below_one (length s.heap.objects) (object_of_node s.host.objects p).0 (object_there p (parent_in s.host.nodes hosted.sound.nodes.trees k p e))

  nodes_below : (ks : List NodeId) → ((c : ℕ) → has c ks ≡ true → c < length s.host.nodes) → all_below (length s.heap.objects) (nodes_links s.host.objects ks) ≡ true
  nodes_below [] there = refl
  nodes_below (k ∷ ks) there =
      below_next (length s.heap.objects) (object_of_node s.host.objects k).0 (nodes_links s.host.objects ks)
      (object_there k (there k.0 (rw (eq-eqb k.0 k.0 refl) refl))) (nodes_below ks (λ c h. there c (later c h)))
    where
      later : (c : ℕ) → has c ks ≡ true → has c (k ∷ ks) ≡ true
      later c h = by (nat_eq c k.0) refl
        where
          by : (b : Bool) → nat_eq c k.0 ≡ b → has c (k ∷ ks) ≡ true
          by true e = rw e refl
          by false e = rw e h

  abbrev Callable : Listener → Type 0
  Callable l = is_callable_class (class_at s l.call) ≡ true

  heard_below : (k : ℕ) (ls : List Listener) → CallsFunctions s ls → all_below (length s.heap.objects) (calls_links (heard_at k ls)) ≡ true
  heard_below k [] all = refl
  heard_below k (l ∷ ls) all = by (nat_eq k l.node.0) refl (heard_below k ls (All-tail Callable l ls all))
    where
      by : (b : Bool) → nat_eq k l.node.0 ≡ b → all_below (length s.heap.objects) (calls_links (heard_at k ls)) ≡ true
          → all_below (length s.heap.objects) (calls_links (heard_at k (l ∷ ls))) ≡ true
      by true e others = rw e (below_next (length s.heap.objects) l.call.0 (calls_links (heard_at k ls)) (call_there s l.call (All-head Callable l ls all)) others)
      by false e others = rw e others

  node_below : (k : NodeId) → all_below (length s.heap.objects) (node_links s.host k) ≡ true
  node_below k =
      let n = length s.heap.objects in
      let up = parent_links s.host.objects (parent_at s.host.nodes k.0) in
      let down = nodes_links s.host.objects (children_at s.host.nodes k.0) in
      let calls = calls_links (heard_at k.0 s.host.listeners) in
      below_join n up (down ++ calls) (parent_below k.0 (parent_at s.host.nodes k.0) refl)
      (below_join n down calls (nodes_below (children_at s.host.nodes k.0) (λ c h. child_in s.host.nodes hosted.sound.nodes.trees k.0 c h))
      (heard_below k.0 s.host.listeners hosted.heard))

  pub host_below : (c : Class) → all_below (length s.heap.objects) (event_links c) ≡ true → all_below (length s.heap.objects) (host_links s.host c) ≡ true
  host_below (class.Node k) events = node_below k
  host_below (class.Event parts) events = (below_parts (length s.heap.objects) (proto_links parts.target) (proto_links parts.current) events).0
  host_below c events = refl

  pub timers_below : (ts : List Live) → CanBeCalled s ts → all_below (length s.heap.objects) (timers_links ts) ≡ true
  timers_below [] all = refl
  timers_below (t ∷ ts) all =
      below_next (length s.heap.objects) t.call.0 (timers_links ts) (call_there s t.call (all t (inl refl))) (timers_below ts (λ u h. all u (inr h)))
