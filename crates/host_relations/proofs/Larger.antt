-- In a larger naming what was related stays related; hosts do where it has the same pairs of nodes.
use Rattle.std.proofs.Common.{◌≡◌, refl, sym, subst, ℕ, List, Option}
use Rattle.js_values.specs.declared.ids.NodeId.{NodeId}
use Rattle.dom_tree.specs.Node.{Node, Nodes}
use Rattle.timer_queue.specs.declared.timer.Live.{Live}
use Rattle.page_host.specs.declared.listener.Listener.{Listener}
use Rattle.page_host.specs.Host.{Host}
use Rattle.heap_relations.proofs.Callers.{named_up}
use Rattle.heap_relations.specs.Naming.{In, Larger, Named, World, pair, there}
use Rattle.heap_relations.specs.Related.{Each, Maybe, each, no_more, none, some}
use Rattle.host_relations.specs.HostLaws.{HostsStay}
use Rattle.host_relations.specs.Hosts.{HostRel, ListenerRel}
use Rattle.host_relations.specs.Linked.{Linked, with_pair}
use Rattle.host_relations.specs.Nodes.{NodeIds, NodeRel, NodesRel}
use Rattle.host_relations.specs.Timers.{Clocks, TimersRel}

pub pair_more : (W : World) (i j : ℕ) → Larger W (with_pair W i j)
pair_more W i j = record { opens = refl; objects = λ p h. h; nodes = λ p h. there h; opened = refl; fits = refl; before = refl; slots = λ s h. h; done = λ k h. h; bases = refl }

module _ {V W : World} (l : Larger V W) where
  pub linked_up : {a b : ℕ} → Linked V a b → Linked W a b
  linked_up h = record { named = l.nodes _ h.named }

  id_up : {a b : NodeId} → NodeIds (Linked V) a b → NodeIds (Linked W) a b
  id_up h = record { linked = linked_up h.linked }

  maybe_up : {o p : Option NodeId} → Maybe (NodeIds (Linked V)) o p → Maybe (NodeIds (Linked W)) o p
  maybe_up none = none
  maybe_up (some h) = some (id_up h)

  each_up : {cs ds : List NodeId} → Each (NodeIds (Linked V)) cs ds → Each (NodeIds (Linked W)) cs ds
  each_up no_more = no_more
  each_up (each h hs) = each (id_up h) (each_up hs)

  pub node_up : {m n : Node} → NodeRel (Linked V) m n → NodeRel (Linked W) m n
  node_up h = record { content = h.content; parent = maybe_up h.parent; children = each_up h.children }

  pub listener_up : {m n : Listener} → ListenerRel V m n → ListenerRel W m n
  listener_up h = record { node = linked_up h.node; kind = h.kind; call = named_up l h.call; capture = h.capture }

  pub heard_up : {ms ns : List Listener} → Each (ListenerRel V) ms ns → Each (ListenerRel W) ms ns
  heard_up no_more = no_more
  heard_up (each h hs) = each (listener_up h) (heard_up hs)

  pub timers_up : {c : Clocks} {ts us : List Live} → TimersRel (Named V) c ts us → TimersRel (Named W) c ts us
  timers_up no_more = no_more
  timers_up (each h hs) = each (record { id = h.id; due = h.due; period = h.period; call = named_up l h.call }) (timers_up hs)

  module _ (e : V.nodes ≡ W.nodes) where
    linked_down : {a b : ℕ} → Linked W a b → Linked V a b
    linked_down {a = a} {b = b} h = record { named = subst (λ ps. In (pair a b) ps) (sym e) h.named }

    pub nodes_up : {t u : Nodes} → NodesRel (Linked V) t u → NodesRel (Linked W) t u
    nodes_up g = record {
      at = λ a b h. node_up (g.at a b (linked_down h));
      inside = λ a b h. g.inside a b (linked_down h);
      same = λ a b c d h k. g.same a b c d (linked_down h) (linked_down k);
      document = linked_up g.document;
    }

    pub host_up : {c : Clocks} {h g : Host} → HostRel c V h g → HostRel c W h g
    host_up r = record {
      nodes = nodes_up r.nodes;
      left = r.left;
      right = r.right;
      objects = λ a b h. named_up l (r.objects a b (linked_down h));
      listeners = λ a b h. heard_up (r.listeners a b (linked_down h));
      timers = timers_up r.timers;
      clock = r.clock;
    }

pub hosts_stay : HostsStay
hosts_stay c V W h g l e r = host_up l e r
