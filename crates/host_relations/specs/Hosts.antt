-- When what the hosts of two pages keep means the same, for a naming and the clocks when it began; and when two things that are done to hosts are.
use Rattle.std.specs.Prelude.{◌≡◌, ℕ, ◌<◌, List, Option, filter, length, nat_eq}
use Rattle.std.specs.List.{All}
use Rattle.js_values.specs.declared.ids.NodeId.{NodeId}
use Rattle.js_values.specs.declared.ids.ObjId.{ObjId}
use Rattle.dom_tree.specs.Node.{Nodes}
use Rattle.dom_tree.specs.Sound.{AreTrees}
use Rattle.dom_tree.specs.Steps.{NodeStep}
use Rattle.page_host.specs.declared.listener.Listener.{Listener}
use Rattle.page_host.specs.Host.{Host, object_of_node}
use Rattle.page_host.specs.Steps.{HostStep, clears, clock_at, fires, forgets, in_nodes, listens, starts}
use Rattle.heap_relations.specs.Naming.{Named, World}
use Rattle.heap_relations.specs.Related.{Each}
use Rattle.host_relations.specs.Linked.{Linked}
use Rattle.host_relations.specs.NodeSteps.{NodeStepRel}
use Rattle.host_relations.specs.Nodes.{NodesRel}
use Rattle.host_relations.specs.Timers.{Clocks, MomentRel, TimersRel}

-- ---- listeners

-- those of the node at the place, in the order in which they were added
abbrev pub heard_at : ℕ → List Listener → List Listener
heard_at k ls = filter (λ l. nat_eq k l.node.0) ls

pub record ListenerRel (W : World) (l m : Listener) : Type 0 where
  pub node : Linked W l.node.0 m.node.0
  pub kind : l.kind ≡ m.kind
  pub call : Named W l.call.0 m.call.0
  pub capture : l.capture ≡ m.capture

-- linked nodes have the same listeners in order, whatever the order of those of other nodes
abbrev pub ListenersRel : World → List Listener → List Listener → Type 0
ListenersRel W ls ms = (a b : ℕ) → Linked W a b → Each (ListenerRel W) (heard_at a ls) (heard_at b ms)

-- ---- the host

-- the nodes form trees, each has an object, and listeners are of nodes that are there
pub record IsOrderly (t : Nodes) (os : List ObjId) (ls : List Listener) : Type 0 where
  pub trees : AreTrees t
  pub objects : length os ≡ length t
  pub listeners : All (λ l. l.node.0 < length t) ls

pub record HostRel (c : Clocks) (W : World) (h g : Host) : Type 0 where
  pub nodes : NodesRel (Linked W) h.nodes g.nodes
  pub left : IsOrderly h.nodes h.objects h.listeners
  pub right : IsOrderly g.nodes g.objects g.listeners
  pub objects : (a b : NodeId) → Linked W a.0 b.0 → Named W (object_of_node h.objects a).0 (object_of_node g.objects b).0
  pub listeners : ListenersRel W h.listeners g.listeners
  pub timers : TimersRel (Named W) c h.timers g.timers
  pub clock : MomentRel c h.clock g.clock

-- ---- what is done

pub data StepRel (c : Clocks) (W : World) : HostStep → HostStep → Type 0 where
  nodes_rel : {s r : NodeStep} → NodeStepRel W s r → StepRel c W (in_nodes s) (in_nodes r)
  listens_rel : {l m : Listener} → ListenerRel W l m → StepRel c W (listens l) (listens m)
  forgets_rel : {l m : Listener} → ListenerRel W l m → StepRel c W (forgets l) (forgets m)
  starts_rel : {delay : ℕ} {period : Option ℕ} {k l : ObjId} → Named W k.0 l.0 → StepRel c W (starts delay period k) (starts delay period l)
  clears_rel : {id : ℕ} → StepRel c W (clears id) (clears id)
  fires_rel : {m n : ℕ} → MomentRel c m n → StepRel c W (fires m) (fires n)
  clock_rel : {m n : ℕ} → MomentRel c m n → StepRel c W (clock_at m) (clock_at n)
