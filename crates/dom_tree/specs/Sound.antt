-- What holds of the nodes of a document at all times.
use Rattle.std.specs.Prelude.{◌≡◌, ℕ, ◌≤◌, Bool, true, false, ◌&&◌, ◌||◌, not, List, [], Option, Some, None, length, nat_eq, bytes_eq, codes, filter, is_none}
use Rattle.std.specs.List.{list_all}
use Rattle.js_values.specs.declared.ids.NodeId.{NodeId}
use Rattle.dom_tree.specs.declared.content.Content.{Content}
use Rattle.dom_tree.specs.declared.content.Kind.{Kind}
use Rattle.dom_tree.specs.declared.content.Kind.TheVariants.{Element}
use Rattle.dom_tree.specs.Attributes.{has_distinct_names}
use Rattle.dom_tree.specs.Name.{is_folded_name}
use Rattle.dom_tree.specs.Node.{Nodes, children_at, first_of, has, is_distinct, is_document, is_element, is_text, is_this, kind_at, may_have_children, node_at, parent_at}

-- from the node one comes, from parent to parent, to one that has none
pub data Rooted (t : Nodes) : ℕ → Type 0 where
  root : {k : ℕ} → parent_at t k ≡ None → Rooted t k
  under : {k : ℕ} {p : NodeId} → parent_at t k ≡ Some p → Rooted t p.0 → Rooted t k

-- the nodes form trees: a node is among the children of its parent, once, and of no other node
pub record AreTrees (t : Nodes) : Type 0 where
  pub agree : (p c : ℕ) → has c (children_at t p) ≡ is_this p (parent_at t c)
  pub distinct : (p : ℕ) → is_distinct (children_at t p) ≡ true
  pub rooted : (k : ℕ) → Rooted t k

abbrev pub has_folded_name : Kind → Bool
has_folded_name (Element name) = is_folded_name name
has_folded_name k = true

-- `input` and `textarea` elements have a value that can be set
abbrev pub takes_value : Kind → Bool
takes_value (Element name) = bytes_eq name (codes "input") || bytes_eq name (codes "textarea")
takes_value k = false

-- names are folded, only elements have attributes, no two of one name, and only such elements a set value
abbrev pub is_proper : Content → Bool
is_proper c =
    has_folded_name c.kind && list_all (λ a. is_folded_name a.0) c.attributes && has_distinct_names c.attributes && (is_element c.kind || nat_eq (length c.attributes) 0)
    && (takes_value c.kind || is_none c.value)

-- the elements among the children of the document
abbrev pub elements_of : Nodes → List NodeId
elements_of t = filter (λ c. is_element (kind_at t c.0)) (children_at t 0)

abbrev pub document_element : Nodes → Option NodeId
document_element t = first_of (elements_of t)

pub record IsSound (t : Nodes) : Type 0 where
  pub trees : AreTrees t
  pub proper : (k : ℕ) → is_proper (node_at t k).content ≡ true
  -- texts and comments have no child
  pub leaves : (k : ℕ) → may_have_children (kind_at t k) ≡ false → children_at t k ≡ []
  -- the first node alone is a document, and it has no parent
  pub document : (k : ℕ) → is_document (kind_at t k) ≡ nat_eq k 0
  pub root : parent_at t 0 ≡ None
  -- under the document there are no text and at most one element
  pub no_text : list_all (λ c. not (is_text (kind_at t c.0))) (children_at t 0) ≡ true
  pub one_element : length (elements_of t) ≤ 1
