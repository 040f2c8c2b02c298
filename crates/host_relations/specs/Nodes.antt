-- When the nodes of two pages mean the same, for what links their ids. Nodes that are not linked do not count; a tree is linked as a whole, since the
-- parent and the children of a linked node are.
use Rattle.std.specs.Prelude.{◌≡◌, ℕ, ◌<◌, length, nat_eq}
use Rattle.js_values.specs.declared.ids.NodeId.{NodeId}
use Rattle.dom_tree.specs.Node.{Node, Nodes, node_at}
use Rattle.heap_relations.specs.Related.{Each, Maybe}

pub record NodeIds (N : ℕ → ℕ → Type 0) (a b : NodeId) : Type 0 where
  pub linked : N a.0 b.0

pub record NodeRel (N : ℕ → ℕ → Type 0) (m n : Node) : Type 0 where
  pub content : m.content ≡ n.content
  pub parent : Maybe (NodeIds N) m.parent n.parent
  pub children : Each (NodeIds N) m.children n.children

pub record NodesRel (N : ℕ → ℕ → Type 0) (t u : Nodes) : Type 0 where
  pub at : (a b : ℕ) → N a b → NodeRel N (node_at t a) (node_at u b)
  pub inside : (a b : ℕ) → N a b → (a < length t) × (b < length u)
  -- one to one
  pub same : (a b c d : ℕ) → N a b → N c d → nat_eq a c ≡ nat_eq b d
  -- the documents are linked
  pub document : N 0 0
