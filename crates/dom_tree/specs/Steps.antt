-- What is done to nodes, one thing after another. What does not fit changes nothing, so that whatever is done keeps the nodes sound.
use Rattle.std.specs.Prelude.{Bool, true, ◌&&◌, Option, length, is_none, nat_lt, if◌then◌else◌}
use Rattle.js_core.specs.Text.{Text}
use Rattle.js_values.specs.declared.ids.NodeId.{NodeId}
use Rattle.dom_tree.specs.declared.content.Content.{Content}
use Rattle.dom_tree.specs.Change.{all_taken_out, inserted, insertion_error, replaced, replacement_error, taken_out}
use Rattle.dom_tree.specs.Content.{has_text, with_attribute, with_text, with_value, without_attribute}
use Rattle.dom_tree.specs.Name.{is_name}
use Rattle.dom_tree.specs.Node.{Nodes, children_at, is_element, kind_at, node_at, with_content}
use Rattle.dom_tree.specs.Sound.{takes_value}

pub data NodeStep : Type 0 where
  -- the parent, the child and the reference
  inserts : NodeId → NodeId → Option NodeId → NodeStep
  -- the parent, the new child and the old one
  replaces : NodeId → NodeId → NodeId → NodeStep
  takes_out : NodeId → NodeStep
  -- all children are taken out
  empties : NodeId → NodeStep
  sets_text : NodeId → Text → NodeStep
  sets_value : NodeId → Text → NodeStep
  -- the name and the value of an attribute
  sets_attribute : NodeId → Text → Text → NodeStep
  drops_attribute : NodeId → Text → NodeStep

abbrev pub is_there : Nodes → NodeId → Bool
is_there t k = nat_lt k.0 (length t)

-- whether it fits: the node is there, and is not refused or is of a kind that has such a part
abbrev pub fits : Nodes → NodeStep → Bool
fits t (inserts p c before) = is_there t c && is_none (insertion_error t p c before)
fits t (replaces p c old) = is_there t c && is_none (replacement_error t p c old)
fits t (takes_out c) = true
fits t (empties k) = true
fits t (sets_text k x) = is_there t k && has_text (kind_at t k.0)
fits t (sets_value k x) = takes_value (kind_at t k.0)
fits t (sets_attribute k name x) = is_element (kind_at t k.0) && is_name name
fits t (drops_attribute k name) = is_element (kind_at t k.0)

abbrev pub content_at : Nodes → NodeId → Content
content_at t k = (node_at t k.0).content

abbrev pub after_fit : Nodes → NodeStep → Nodes
after_fit t (inserts p c before) = inserted t p c before
after_fit t (replaces p c old) = replaced t p c old
after_fit t (takes_out c) = taken_out t c
after_fit t (empties k) = all_taken_out t (children_at t k.0)
after_fit t (sets_text k x) = with_content t k (with_text (content_at t k) x)
after_fit t (sets_value k x) = with_content t k (with_value (content_at t k) x)
after_fit t (sets_attribute k name x) = with_content t k (with_attribute (content_at t k) name x)
after_fit t (drops_attribute k name) = with_content t k (without_attribute (content_at t k) name)

abbrev pub after_node : Nodes → NodeStep → Nodes
after_node t g = if fits t g then after_fit t g else t
