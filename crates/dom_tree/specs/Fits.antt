-- What an insertion asks of the nodes, and what becomes of the element of the document.
use Rattle.std.specs.Prelude.{◌≡◌, ℕ, Bool, true, false, cond, List, Option, Some, None, length}
use Rattle.js_values.specs.declared.ids.NodeId.{NodeId}
use Rattle.dom_tree.specs.Change.{has_other_element, is_above}
use Rattle.dom_tree.specs.Node.{Nodes, children_at, has, is_document, is_element, is_text, is_this, kind_at, may_have_children, parent_at}

-- the reference is in the list, or there is none
abbrev pub in_or_end : Option NodeId → List NodeId → Bool
in_or_end None l = true
in_or_end (Some c) l = has c.0 l

-- what the tests of an insertion say
pub record Fits (t : Nodes) (p x : NodeId) (r : Option NodeId) : Type 0 where
  pub holds : may_have_children (kind_at t p.0) ≡ true
  pub no_document : is_document (kind_at t x.0) ≡ false
  pub not_above : is_above t x.0 p.0 ≡ false
  pub no_text : is_document (kind_at t p.0) ≡ true → is_text (kind_at t x.0) ≡ false
  pub no_other : is_document (kind_at t p.0) ≡ true → is_element (kind_at t x.0) ≡ true → has_other_element t x.0 ≡ false
  pub there : in_or_end r (children_at t p.0) ≡ true

-- the node is alone, and may stand under the parent before the reference
pub record IsReady (t : Nodes) (p x : NodeId) (r : Option NodeId) (n : ℕ) : Type 0 where
  pub fits : Fits t p x r
  pub alone : parent_at t x.0 ≡ None
  pub long : length t ≡ n

-- the element of the document after a node is taken out, and after one is put in
abbrev pub top_without : ℕ → Option NodeId → Option NodeId
top_without x top = cond (is_this x top) None top

abbrev pub top_with : NodeId → Bool → Option NodeId → Option NodeId
top_with x gets top = cond gets (Some x) top
