-- What the host keeps for a page. It is changed by the makers below alone.
use Rattle.std.specs.Prelude.{ℕ, List, [], ◌∷◌, ◌++◌, slice_index_or}
use Rattle.js_values.specs.declared.ids.NodeId.{NodeId}
use Rattle.js_values.specs.declared.ids.ObjId.{ObjId}
use Rattle.dom_tree.specs.Node.{Nodes}
use Rattle.timer_queue.specs.declared.timer.Live.{Live}
use Rattle.page_host.specs.declared.listener.Listener.{Listener}

-- the nodes, each with its object at the same place; the listeners in the order in which they were added; the live timers in starting
-- order, and the clock, in milliseconds
pub record Host : Type 0 where
  pub nodes : Nodes
  pub objects : List ObjId
  pub listeners : List Listener
  pub timers : List Live
  pub clock : ℕ

-- a page that was read: neither listeners nor timers, and the clock is at 0
abbrev pub new_host : Nodes → List ObjId → Host
new_host t objects = record { nodes = t; objects = objects; listeners = []; timers = []; clock = 0 }

abbrev pub with_nodes : Host → Nodes → Host
with_nodes h t = record { nodes = t; objects = h.objects; listeners = h.listeners; timers = h.timers; clock = h.clock }

abbrev pub with_listeners : Host → List Listener → Host
with_listeners h ls = record { nodes = h.nodes; objects = h.objects; listeners = ls; timers = h.timers; clock = h.clock }

abbrev pub with_timers : Host → List Live → Host
with_timers h ts = record { nodes = h.nodes; objects = h.objects; listeners = h.listeners; timers = ts; clock = h.clock }

abbrev pub with_clock : Host → ℕ → Host
with_clock h n = record { nodes = h.nodes; objects = h.objects; listeners = h.listeners; timers = h.timers; clock = n }

-- one more node, the youngest, and its object
abbrev pub with_node : Host → Nodes → ObjId → Host
with_node h t at = record { nodes = t; objects = h.objects ++ at ∷ []; listeners = h.listeners; timers = h.timers; clock = h.clock }

-- stands for an object where a node has none
abbrev pub no_object : ObjId
no_object = record { 0 = 0 }

-- the object of a node; the first node's is the document
abbrev pub object_of_node : List ObjId → NodeId → ObjId
object_of_node objects k = slice_index_or objects k.0 no_object

abbrev pub document_of : List ObjId → ObjId
document_of objects = object_of_node objects (record { 0 = 0 })
