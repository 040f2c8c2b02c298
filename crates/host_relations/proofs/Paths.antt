-- The ways of events at linked nodes, and the listeners on them.
use Rattle.std.proofs.Common.{◌≡◌, refl, sym, ap, subst, Bool, true, false, ◌&&◌, nat_eq, bytes_eq, filter, map, reverse, if◌then◌else◌, List, [], ◌∷◌, ◌++◌}
use Rattle.std.proofs.lemmas.List.{reverse-append}
use Rattle.js_core.specs.Text.{Text}
use Rattle.js_values.specs.declared.ids.NodeId.{NodeId}
use Rattle.dom_tree.proofs.Callers.{eq_sym}
use Rattle.dom_tree.specs.Node.{nodes_above}
use Rattle.page_host.specs.declared.listener.Listener.{Listener}
use Rattle.page_host.specs.declared.path.Phase.{Phase}
use Rattle.page_host.specs.declared.path.Phase.TheVariants.{Bubbling, Capturing}
use Rattle.page_host.specs.declared.path.Place.{Place}
use Rattle.page_host.specs.Host.{Host}
use Rattle.page_host.specs.Listeners.{is_taken_in, round, takes}
use Rattle.page_host.specs.Paths.{event_path, in_phase}
use Rattle.heap_relations.proofs.Callers.{each_append}
use Rattle.heap_relations.specs.Naming.{World}
use Rattle.heap_relations.specs.Related.{Each, each, no_more}
use Rattle.host_relations.proofs.Hearing.{passed, registered}
use Rattle.host_relations.proofs.Walks.{above_rel}
use Rattle.host_relations.specs.Hosts.{HostRel, ListenerRel, heard_at}
use Rattle.host_relations.specs.Linked.{Linked}
use Rattle.host_relations.specs.Nodes.{NodeIds}
use Rattle.host_relations.specs.Paths.{EventWaysAgree, PlaceRel}
use Rattle.host_relations.specs.Timers.{Clocks}

-- ---- the path

marked : (W : World) (phase : Phase) (ks ls : List NodeId) → Each (NodeIds (Linked W)) ks ls → Each (PlaceRel W) (map (in_phase phase) ks) (map (in_phase phase) ls)
marked W phase _ _ no_more = no_more
marked W phase _ _ (each {a = k} {b = l} {xs = ks} {ys = ls} h hs) = each (record { node = h.linked; phase = refl }) (marked W phase ks ls hs)

reversed : {A : Type 0} (R : A → A → Type 0) (ks ls : List A) → Each R ks ls → Each R (reverse ks) (reverse ls)
reversed R _ _ no_more = no_more
reversed R _ _ (each {a = x} {b = y} {xs = ks} {ys = ls} h hs) =
    subst (λ l. Each R l (reverse (y ∷ ls))) (sym (reverse-append (x ∷ []) ks))
    (subst (λ l. Each R (reverse ks ++ x ∷ []) l) (sym (reverse-append (y ∷ []) ls)) (each_append (reversed R ks ls hs) (each h no_more)))

-- ---- a round

in_round : (kind : Text) (p : Place) (ls : List Listener) → round ls kind p ≡ filter (λ l. bytes_eq l.kind kind && is_taken_in p.phase l.capture) (heard_at p.node.0 ls)
in_round kind p [] = refl
in_round kind p (l ∷ ls) = by (nat_eq p.node.0 l.node.0) (nat_eq l.node.0 p.node.0) (eq_sym l.node.0 p.node.0) (in_round kind p ls)
  where
    test : Listener → Bool
    test m = bytes_eq m.kind kind && is_taken_in p.phase m.capture

    by : (a b : Bool) → b ≡ a → filter (takes kind p) ls ≡ filter test (heard_at p.node.0 ls)
        → (if b && bytes_eq l.kind kind && is_taken_in p.phase l.capture then l ∷ filter (takes kind p) ls else filter (takes kind p) ls) ≡ filter test (if a then l ∷ heard_at p.node.0 ls else heard_at p.node.0 ls)
    by true true same later = ap (λ z. if test l then l ∷ z else z) later
    by false false same later = later
    by true false same later = absurd (cc)
    by false true same later = absurd (cc)

module _ (c : Clocks) (W : World) (h g : Host) (q : HostRel c W h g) where
  pub path_rel : (k l : NodeId) (bubbles : Bool) → Linked W k.0 l.0 → Each (PlaceRel W) (event_path h.nodes k bubbles) (event_path g.nodes l bubbles)
  path_rel k l bubbles n =
      each_append (marked W Capturing (reverse (nodes_above h.nodes k)) (reverse (nodes_above g.nodes l)) (reversed (NodeIds (Linked W)) (nodes_above h.nodes k) (nodes_above g.nodes l) up))
      (each (record { node = n; phase = refl }) (rest bubbles))
    where
      up : Each (NodeIds (Linked W)) (nodes_above h.nodes k) (nodes_above g.nodes l)
      up = above_rel (Linked W) h.nodes g.nodes q.nodes q.left.trees q.right.trees k l n

      rest : (b : Bool) → Each (PlaceRel W) (if b then map (in_phase Bubbling) (nodes_above h.nodes k) else []) (if b then map (in_phase Bubbling) (nodes_above g.nodes l) else [])
      rest true = marked W Bubbling (nodes_above h.nodes k) (nodes_above g.nodes l) up
      rest false = no_more

  pub round_rel : (kind : Text) (p r : Place) → PlaceRel W p r → Each (ListenerRel W) (round h.listeners kind p) (round g.listeners kind r)
  round_rel kind p r m =
      rw (in_round kind p h.listeners, in_round kind r g.listeners)
      (passed (λ l. bytes_eq l.kind kind && is_taken_in p.phase l.capture) (λ l. bytes_eq l.kind kind && is_taken_in r.phase l.capture) (heard_at p.node.0 h.listeners) (heard_at r.node.0 g.listeners)
      (λ l j k. rw (k.kind, k.capture, m.phase) refl) (q.listeners p.node.0 r.node.0 m.node))

pub event_ways_agree : EventWaysAgree
event_ways_agree c W h g q = record {
  path = path_rel c W h g q;
  round = round_rel c W h g q;
  registered = λ l m one k. registered W one.same q.nodes.same l m h.listeners g.listeners k q.listeners;
}
