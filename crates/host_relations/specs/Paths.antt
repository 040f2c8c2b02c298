-- The ways of events at linked nodes, and the listeners on them.
use Rattle.std.specs.Prelude.{◌≡◌, Bool}
use Rattle.js_core.specs.Text.{Text}
use Rattle.js_values.specs.declared.ids.NodeId.{NodeId}
use Rattle.page_host.specs.declared.listener.Listener.{Listener}
use Rattle.page_host.specs.declared.path.Place.{Place}
use Rattle.page_host.specs.Host.{Host}
use Rattle.page_host.specs.Listeners.{is_registered, round}
use Rattle.page_host.specs.Paths.{event_path}
use Rattle.heap_relations.specs.Naming.{World, named}
use Rattle.heap_relations.specs.Related.{Each, IsOneToOne}
use Rattle.host_relations.specs.Hosts.{HostRel, ListenerRel}
use Rattle.host_relations.specs.Linked.{Linked}
use Rattle.host_relations.specs.Timers.{Clocks}

pub record PlaceRel (W : World) (p q : Place) : Type 0 where
  pub node : Linked W p.node.0 q.node.0
  pub phase : p.phase ≡ q.phase

pub record WaysAgree (W : World) (h g : Host) : Type 0 where
  pub path : (k l : NodeId) (bubbles : Bool) → Linked W k.0 l.0 → Each (PlaceRel W) (event_path h.nodes k bubbles) (event_path g.nodes l bubbles)
  pub round : (kind : Text) (p q : Place) → PlaceRel W p q → Each (ListenerRel W) (round h.listeners kind p) (round g.listeners kind q)
  pub registered : (l m : Listener) → IsOneToOne (named W) → ListenerRel W l m → is_registered h.listeners l ≡ is_registered g.listeners m

abbrev pub EventWaysAgree : Type 0
EventWaysAgree = (c : Clocks) (W : World) (h g : Host) → HostRel c W h g → WaysAgree W h g
