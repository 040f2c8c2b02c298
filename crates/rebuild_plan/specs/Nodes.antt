-- A node as it is saved: its attributes, its set value, its children and its listeners, all objects by their places.
use Rattle.std.specs.Prelude.{◌≡◌, ℕ, Bool, List, [], ◌∷◌, Option, Some, None}
use Rattle.dom_tree.specs.Attributes.{Pairs}
use Rattle.dom_tree.specs.Node.{children_at, node_at}
use Rattle.dom_tree.specs.declared.content.Kind.{Kind}
use Rattle.dom_tree.specs.declared.content.Kind.TheVariants as kind
use Rattle.js_values.specs.declared.ids.NodeId.{NodeId}
use Rattle.js_values.specs.declared.ids.ObjId.{ObjId}
use Rattle.object_heap.specs.declared.object.Class.{Class}
use Rattle.object_heap.specs.declared.object.Class.TheVariants.{Node}
use Rattle.page_host.specs.Host.{Host, object_of_node}
use Rattle.page_host.specs.declared.listener.Listener.{Listener}
use Rattle.heap_walker.specs.Things.{heard_at}
use Rattle.rebuild_plan.specs.Moved.{moved, moved_proto}
use Rattle.rebuild_plan.specs.declared.statement.Maker.{Maker}
use Rattle.rebuild_plan.specs.declared.statement.Maker.TheVariants as made

-- a listener, at its node
pub record SavedListener : Type 0 where
  pub kind : List ℕ
  pub call : ObjId
  pub capture : Bool

pub record SavedNode : Type 0 where
  pub attributes : Pairs
  pub value : Option (List ℕ)
  pub children : List ObjId
  pub listeners : List SavedListener

-- of an object that is no node
abbrev pub no_node : SavedNode
no_node = record { attributes = []; value = None; children = []; listeners = [] }

abbrev pub moved_listeners : List ℕ → List Listener → List SavedListener
moved_listeners things [] = []
moved_listeners things (l ∷ ls) = record { kind = l.kind; call = moved things l.call; capture = l.capture } ∷ moved_listeners things ls

-- the objects of these nodes
abbrev pub moved_nodes : List ℕ → List ObjId → List NodeId → List ObjId
moved_nodes things objects [] = []
moved_nodes things objects (k ∷ ks) = moved things (object_of_node objects k) ∷ moved_nodes things objects ks

abbrev pub node_of : Host → List ℕ → NodeId → SavedNode
node_of h things k = record {
  attributes = (node_at h.nodes k.0).content.attributes;
  value = (node_at h.nodes k.0).content.value;
  children = moved_nodes things h.objects (children_at h.nodes k.0);
  listeners = moved_listeners things (heard_at k.0 h.listeners);
}

abbrev pub node_if : Host → List ℕ → Option NodeId → SavedNode
node_if h things None = no_node
node_if h things (Some k) = node_of h things k

abbrev pub node_as : Host → List ℕ → Class → SavedNode
node_as h things (Node k) = node_of h things k
node_as h things c = no_node

-- an object of this class is that of the node, or of none
abbrev pub IsNodeOf : Class → Option NodeId → Type 0
IsNodeOf c node = (h : Host) (things : List ℕ) → node_as h things c ≡ node_if h things node

-- what makes a node of this kind. The document is not made
abbrev pub node_maker : List ℕ → Option ObjId → Kind → Maker
node_maker things proto kind.Document = made.Plain (moved_proto things proto)
node_maker things proto (kind.Element name) = made.Element name
node_maker things proto (kind.Text text) = made.Text text
node_maker things proto (kind.Comment text) = made.Comment text
