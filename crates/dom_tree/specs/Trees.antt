-- The trees that the nodes form, their nodes in document order, and what is looked for among nodes.
use Rattle.std.specs.Prelude.{ℕ, zero, suc, Bool, false, List, [], ◌∷◌, ◌++◌, Option, Some, None, length, find, codes, bytes_eq, if◌then◌else◌}
use Rattle.js_core.specs.Text.{Text}
use Rattle.js_values.specs.declared.ids.NodeId.{NodeId}
use Rattle.dom_tree.specs.Attributes.{value_of}
use Rattle.dom_tree.specs.Content.{is_named}
use Rattle.dom_tree.specs.Node.{Node, Nodes, children_at, kind_at, node_at}

-- a list of trees: the first of them is a node with the trees under it, and then come the others
pub data Trees : Type 0 where
  no_trees : Trees
  tree : NodeId → Node → Trees → Trees → Trees

-- the trees whose tops are these nodes, where this gives the trees under a node
abbrev pub trees_over : Nodes → (NodeId → Trees) → List NodeId → Trees
trees_over t under [] = no_trees
trees_over t under (c ∷ l) = tree c (node_at t c.0) (under c) (trees_over t under l)

-- the trees whose tops are these nodes, to so many generations
abbrev pub trees_within : Nodes → ℕ → List NodeId → Trees
trees_within t zero l = no_trees
trees_within t (suc n) l = trees_over t (λ c. trees_within t n (children_at t c.0)) l

-- the trees whose tops are these nodes; there are no more generations than nodes
abbrev pub trees_of : Nodes → List NodeId → Trees
trees_of t l = trees_within t (length t) l

-- all nodes of the trees, each before those under it
abbrev pub in_order : Trees → List NodeId
in_order no_trees = []
in_order (tree k n under others) = k ∷ (in_order under ++ in_order others)

abbrev pub is_text_in : Text → Option Text → Bool
is_text_in text None = false
is_text_in text (Some other) = bytes_eq text other

-- whether the attribute `id` of the node is this
abbrev pub has_id : Nodes → Text → NodeId → Bool
has_id t id k = is_text_in id (value_of (codes "id") (node_at t k.0).content.attributes)

-- the first node in document order, in the document, whose `id` is this
abbrev pub find_id : Nodes → Text → Option NodeId
find_id t id = find (has_id t id) (in_order (trees_of t (record { 0 = 0 } ∷ [])))

-- the first of the nodes that is an element of this name
abbrev pub first_named : Nodes → Text → List NodeId → Option NodeId
first_named t name [] = None
first_named t name (c ∷ l) = if is_named name (kind_at t c.0) then Some c else first_named t name l
