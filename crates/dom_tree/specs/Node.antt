-- The nodes of a document as a list by age.
use Rattle.std.specs.Prelude.{◌≡◌, ℕ, ◌<◌, zero, suc, Bool, true, false, ◌&&◌, ◌||◌, not, cond, List, [], ◌∷◌, ◌++◌, Option, Some, None, length, slice_index_or, slice_set, nat_eq}
use Rattle.js_values.specs.declared.ids.NodeId.{NodeId}
use Rattle.dom_tree.specs.declared.content.Content.{Content}
use Rattle.dom_tree.specs.declared.content.Kind.{Kind}
use Rattle.dom_tree.specs.declared.content.Kind.TheVariants.{Comment, Document, Element}
use Rattle.dom_tree.specs.declared.content.Kind.TheVariants as kind

-- a node: its kind with its name or text, attributes and set value; its parent, if it has one; its children in order
pub record Node : Type 0 where
  pub content : Content
  pub parent : Option NodeId
  pub children : List NodeId

-- all nodes by age: an id is a place
abbrev pub Nodes : Type 0
Nodes = List Node

-- stands for a node where there is none
abbrev pub no_content : Content
no_content = record { kind = Comment []; attributes = []; value = None }

abbrev pub no_node : Node
no_node = record { content = no_content; parent = None; children = [] }

abbrev pub node_at : Nodes → ℕ → Node
node_at t k = slice_index_or t k no_node

abbrev pub kind_at : Nodes → ℕ → Kind
kind_at t k = (node_at t k).content.kind

abbrev pub parent_at : Nodes → ℕ → Option NodeId
parent_at t k = (node_at t k).parent

abbrev pub children_at : Nodes → ℕ → List NodeId
children_at t k = (node_at t k).children

-- whether the node at the place is in the list, and whether it is this one
abbrev pub has : ℕ → List NodeId → Bool
has k [] = false
has k (c ∷ l) = nat_eq k c.0 || has k l

abbrev pub is_this : ℕ → Option NodeId → Bool
is_this k None = false
is_this k (Some c) = nat_eq k c.0

-- no node is twice in the list
abbrev pub is_distinct : List NodeId → Bool
is_distinct [] = true
is_distinct (c ∷ l) = not (has c.0 l) && is_distinct l

-- the first node of the list; the last one, which is `before` where the list is empty
abbrev pub first_of : List NodeId → Option NodeId
first_of [] = None
first_of (c ∷ l) = Some c

abbrev pub last_from : Option NodeId → List NodeId → Option NodeId
last_from before [] = before
last_from before (c ∷ l) = last_from (Some c) l

abbrev pub last_of : List NodeId → Option NodeId
last_of l = last_from None l

-- what stands after the node in the list
abbrev pub rest_after : ℕ → List NodeId → List NodeId
rest_after k [] = []
rest_after k (c ∷ l) = cond (nat_eq k c.0) l (rest_after k l)

-- the one before the node in the list, which is `before` where the node is the first
abbrev pub one_before : Option NodeId → ℕ → List NodeId → Option NodeId
one_before before k [] = None
one_before before k (c ∷ l) = cond (nat_eq k c.0) before (one_before (Some c) k l)

-- the node after this one under its parent, which is this, if it has one
abbrev pub next_under : Nodes → ℕ → Option NodeId → Option NodeId
next_under t k None = None
next_under t k (Some p) = first_of (rest_after k (children_at t p.0))

abbrev pub next_of : Nodes → ℕ → Option NodeId
next_of t k = next_under t k (parent_at t k)

abbrev pub previous_under : Nodes → ℕ → Option NodeId → Option NodeId
previous_under t k None = None
previous_under t k (Some p) = one_before None k (children_at t p.0)

abbrev pub previous_of : Nodes → ℕ → Option NodeId
previous_of t k = previous_under t k (parent_at t k)

-- the node with other children, and with another parent
abbrev pub with_children : Nodes → NodeId → List NodeId → Nodes
with_children t p l =
    slice_set t p.0 (record { content = (node_at t p.0).content; parent = parent_at t p.0; children = l })

abbrev pub with_parent : Nodes → NodeId → Option NodeId → Nodes
with_parent t c p =
    slice_set t c.0 (record { content = (node_at t c.0).content; parent = p; children = children_at t c.0 })

abbrev pub with_content : Nodes → NodeId → Content → Nodes
with_content t k new = slice_set t k.0 (record { content = new; parent = parent_at t k.0; children = children_at t k.0 })

-- the nodes above, the nearest first, of which there are no more than nodes
abbrev pub above_within : Nodes → ℕ → Option NodeId → List NodeId
above_within t zero up = []
above_within t (suc n) None = []
above_within t (suc n) (Some p) = p ∷ above_within t n (parent_at t p.0)

abbrev pub nodes_above : Nodes → NodeId → List NodeId
nodes_above t k = above_within t (length t) (parent_at t k.0)

-- all of them are there
abbrev pub AreThere : Nodes → List NodeId → Type 0
AreThere t l = (c : NodeId) → has c.0 l ≡ true → c.0 < length t

-- the document, with no other node
abbrev pub document_alone : Nodes
document_alone = record { content = record { kind = Document; attributes = []; value = None }; parent = None; children = [] } ∷ []

-- one more node, the youngest, alone
abbrev pub with_new : Nodes → Content → Nodes
with_new t new = t ++ record { content = new; parent = None; children = [] } ∷ []

abbrev pub is_document : Kind → Bool
is_document Document = true
is_document k = false

abbrev pub is_element : Kind → Bool
is_element (Element name) = true
is_element k = false

abbrev pub is_text : Kind → Bool
is_text (kind.Text text) = true
is_text k = false

-- the document and elements may have children
abbrev pub may_have_children : Kind → Bool
may_have_children k = is_document k || is_element k
