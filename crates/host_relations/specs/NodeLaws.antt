-- The laws of nodes of two pages that mean the same.
use Rattle.std.specs.Prelude.{◌≡◌, ℕ, ◌<◌, false, nat_eq, [], ◌∷◌, Option, None, length}
use Rattle.js_core.specs.Text.{Text}
use Rattle.js_values.specs.declared.ids.NodeId.{NodeId}
use Rattle.dom_tree.specs.declared.content.Content.{Content}
use Rattle.dom_tree.specs.Change.{insertion_error, removal_error, replacement_error}
use Rattle.dom_tree.specs.DomText.{dom_text, text_content}
use Rattle.dom_tree.specs.Node.{Nodes, children_at, first_of, last_of, next_of, node_at, nodes_above, parent_at, previous_of, with_new}
use Rattle.dom_tree.specs.Sound.{AreTrees}
use Rattle.dom_tree.specs.Steps.{NodeStep, after_node, fits}
use Rattle.dom_tree.specs.Trees.{find_id, in_order, trees_of}
use Rattle.heap_relations.specs.Naming.{World}
use Rattle.heap_relations.specs.Related.{Each, Maybe}
use Rattle.host_relations.specs.Linked.{Linked, with_pair}
use Rattle.host_relations.specs.NodeSteps.{NodeStepRel}
use Rattle.host_relations.specs.Nodes.{NodeIds, NodesRel}

-- what is read of linked nodes
pub record ReadsAgree (N : ℕ → ℕ → Type 0) (t u : Nodes) (k l : NodeId) : Type 0 where
  pub content : (node_at t k.0).content ≡ (node_at u l.0).content
  pub parent : Maybe (NodeIds N) (parent_at t k.0) (parent_at u l.0)
  pub first : Maybe (NodeIds N) (first_of (children_at t k.0)) (first_of (children_at u l.0))
  pub last : Maybe (NodeIds N) (last_of (children_at t k.0)) (last_of (children_at u l.0))
  pub next : Maybe (NodeIds N) (next_of t k.0) (next_of u l.0)
  pub previous : Maybe (NodeIds N) (previous_of t k.0) (previous_of u l.0)
  pub text : dom_text t k ≡ dom_text u l
  pub joined : text_content t k ≡ text_content u l
  -- a walk of the tree under them, and the line of their ancestors
  pub walk : Each (NodeIds N) (in_order (trees_of t (k ∷ []))) (in_order (trees_of u (l ∷ [])))
  pub above : Each (NodeIds N) (nodes_above t k) (nodes_above u l)

-- what is refused
pub record ErrorsAgree (N : ℕ → ℕ → Type 0) (t u : Nodes) (p c q d : NodeId) : Type 0 where
  pub inserts : (before after : Option NodeId) → Maybe (NodeIds N) before after → insertion_error t p c before ≡ insertion_error u q d after
  pub replaces : (o r : NodeId) → N o.0 r.0 → replacement_error t p c o ≡ replacement_error u q d r
  pub removes : removal_error t p c ≡ removal_error u q d

abbrev pub NodesAgree : Type 0
NodesAgree =
    (W : World) (t u : Nodes) → NodesRel (Linked W) t u → AreTrees t → AreTrees u
    → ((k l : NodeId) → Linked W k.0 l.0 → ReadsAgree (Linked W) t u k l)
    × ((p c q d : NodeId) → Linked W p.0 q.0 → Linked W c.0 d.0 → ErrorsAgree (Linked W) t u p c q d)
    × ((id : Text) → Maybe (NodeIds (Linked W)) (find_id t id) (find_id u id))

-- what is done fits both or neither, and keeps the relation
abbrev pub NodeStepsKeep : Type 0
NodeStepsKeep =
    (W : World) (t u : Nodes) (s r : NodeStep) → NodesRel (Linked W) t u → AreTrees t → AreTrees u → NodeStepRel W s r
    → (fits t s ≡ fits u r) × NodesRel (Linked W) (after_node t s) (after_node u r)

-- two new nodes join the naming
abbrev pub NewNodesAgree : Type 0
NewNodesAgree =
    (W : World) (t u : Nodes) (new : Content) → NodesRel (Linked W) t u → NodesRel (Linked (with_pair W (length t) (length u))) (with_new t new) (with_new u new)

-- while a page is rebuilt, its nodes are made one after another: a new node on the right, and one on the left that is alone there and not linked yet
abbrev pub MadeNodesAgree : Type 0
MadeNodesAgree =
    (W : World) (t u : Nodes) (a : ℕ) (new : Content) → NodesRel (Linked W) t u → a < length t → node_at t a ≡ record { content = new; parent = None; children = [] }
    → ((x y : ℕ) → Linked W x y → nat_eq x a ≡ false) → NodesRel (Linked (with_pair W a (length u))) t (with_new u new)

-- what stands for itself where it is not linked on the right does not count: the right may make nodes, and change those that no tree of a linked node has
pub record Apart (N : ℕ → ℕ → Type 0) (u v : Nodes) : Type 0 where
  pub stays : (b : ℕ) → (a : ℕ) → N a b → node_at v b ≡ node_at u b
  pub inside : (a b : ℕ) → N a b → b < length v

abbrev pub OthersDoNotCount : Type 0
OthersDoNotCount = (W : World) (t u v : Nodes) → NodesRel (Linked W) t u → Apart (Linked W) u v → NodesRel (Linked W) t v
