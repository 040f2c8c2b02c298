-- How the links between nodes tell their lists of children.
use Rattle.std.specs.Prelude.{◌≡◌, ℕ, zero, suc, List, [], ◌∷◌, Option, Some, None, length, map, slice_index_or, slice_set}
use Rattle.std.specs.Option.{option_to_list}
use Rattle.js_values.specs.declared.ids.NodeId.{NodeId}
use Rattle.dom_tree.specs.declared.links.Linked.{Linked}
use Rattle.dom_tree.specs.declared.links.Links.{Links}
use Rattle.dom_tree.specs.Node.{Node, Nodes, children_at, no_content, node_at, parent_at}
use Rattle.dom_tree.specs.Sound.{IsSound, elements_of}

abbrev pub no_links : Links
no_links = record { parent = None; first = None; last = None; next = None; previous = None }

abbrev pub no_linked : Linked
no_linked = record { content = no_content; links = no_links }

abbrev pub linked_at : List Linked → ℕ → Linked
linked_at ns k = slice_index_or ns k no_linked

abbrev pub links_at : List Linked → ℕ → Links
links_at ns k = (linked_at ns k).links

-- where a link stands: at an end of the children of a node, or beside a node
pub data Place : Type 0 where
  ends : ℕ → Place
  beside : NodeId → Place

-- among the children of the node: before the first and after the last of them, or at one of them
abbrev pub place_of : ℕ → Option NodeId → Place
place_of p None = ends p
place_of p (Some c) = beside c

-- the link forward, to the first child or the next node, and the one backward
abbrev pub forward : List Linked → Place → Option NodeId
forward ns (ends p) = (links_at ns p).first
forward ns (beside c) = (links_at ns c.0).next

abbrev pub backward : List Linked → Place → Option NodeId
backward ns (ends p) = (links_at ns p).last
backward ns (beside c) = (links_at ns c.0).previous

-- at most so many nodes, from one on, each by the link of the one before
abbrev pub followed : (NodeId → Option NodeId) → ℕ → Option NodeId → List NodeId
followed next zero at = []
followed next (suc n) None = []
followed next (suc n) (Some c) = c ∷ followed next n (next c)

-- the node that the links tell
abbrev pub node_of : List Linked → Linked → Node
node_of ns n = record {
  content = n.content;
  parent = n.links.parent;
  children = followed (λ c. (links_at ns c.0).next) (length ns) n.links.first;
}

abbrev pub nodes_of : List Linked → Nodes
nodes_of ns = map (node_of ns) ns

-- the nodes of the list stand one behind the other, after `before`, and are the last
abbrev pub Chain : (Option NodeId → Option NodeId) → (Option NodeId → Option NodeId) → Option NodeId → List NodeId → Type 0
Chain next previous before [] = (next before ≡ None) × (previous None ≡ before)
Chain next previous before (c ∷ l) = (next before ≡ Some c) × (previous (Some c) ≡ before) × Chain next previous (Some c) l

-- the links of each node to its children, and those between its children
abbrev pub Row : List Linked → ℕ → List NodeId → Type 0
Row ns p l = Chain (λ u. forward ns (place_of p u)) (λ u. backward ns (place_of p u)) None l

-- the links tell these nodes
pub record Shows (ns : List Linked) (t : Nodes) : Type 0 where
  pub long : length t ≡ length ns
  pub content : (k : ℕ) → (node_at t k).content ≡ (linked_at ns k).content
  pub parent : (k : ℕ) → parent_at t k ≡ (links_at ns k).parent
  pub rows : (p : ℕ) → Row ns p (children_at t p)
  pub alone : (c : NodeId) → parent_at t c.0 ≡ None → (forward ns (beside c) ≡ None) × (backward ns (beside c) ≡ None)

-- what holds of the links, and of the element of the document that is kept
pub record AreLinked (ns : List Linked) (top : Option NodeId) : Type 0 where
  pub shows : Shows ns (nodes_of ns)
  pub sound : IsSound (nodes_of ns)
  pub element : elements_of (nodes_of ns) ≡ option_to_list top

-- the links of a node become others
abbrev pub with_links : List Linked → ℕ → Links → List Linked
with_links ns k links = slice_set ns k (record { content = (linked_at ns k).content; links = links })

-- one link becomes another
abbrev pub with_first : Links → Option NodeId → Links
with_first l to = record { parent = l.parent; first = to; last = l.last; next = l.next; previous = l.previous }

abbrev pub with_last : Links → Option NodeId → Links
with_last l to = record { parent = l.parent; first = l.first; last = to; next = l.next; previous = l.previous }

abbrev pub with_next : Links → Option NodeId → Links
with_next l to = record { parent = l.parent; first = l.first; last = l.last; next = to; previous = l.previous }

abbrev pub with_previous : Links → Option NodeId → Links
with_previous l to = record { parent = l.parent; first = l.first; last = l.last; next = l.next; previous = to }

abbrev pub with_up : Links → Option NodeId → Links
with_up l to = record { parent = to; first = l.first; last = l.last; next = l.next; previous = l.previous }

abbrev pub with_forward : List Linked → Place → Option NodeId → List Linked
with_forward ns (ends p) to = with_links ns p (with_first (links_at ns p) to)
with_forward ns (beside c) to = with_links ns c.0 (with_next (links_at ns c.0) to)

abbrev pub with_backward : List Linked → Place → Option NodeId → List Linked
with_backward ns (ends p) to = with_links ns p (with_last (links_at ns p) to)
with_backward ns (beside c) to = with_links ns c.0 (with_previous (links_at ns c.0) to)

abbrev pub with_link_up : List Linked → ℕ → Option NodeId → List Linked
with_link_up ns c to = with_links ns c (with_up (links_at ns c) to)

-- two places among the children of a node become neighbours
abbrev pub joined : List Linked → ℕ → Option NodeId → Option NodeId → List Linked
joined ns p before after = with_backward (with_forward ns (place_of p before) after) (place_of p after) before

-- a node is linked in between its new neighbours, and out
abbrev pub linked_in : List Linked → ℕ → Option NodeId → NodeId → Option NodeId → List Linked
linked_in ns p before c after = with_link_up (joined (joined ns p before (Some c)) p (Some c) after) c.0 (Some (record { 0 = p }))

abbrev pub linked_out : List Linked → ℕ → NodeId → List Linked
linked_out ns p c =
    let before = backward ns (beside c) in
    let after = forward ns (beside c) in
    with_link_up (with_backward (with_forward (joined ns p before after) (beside c) None) (beside c) None) c.0 None
