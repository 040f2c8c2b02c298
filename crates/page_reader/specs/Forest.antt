-- The trees of a page, and the nodes that they become.
use Rattle.std.specs.Prelude.{[], ◌∷◌, None, length, is_some, if◌then◌else◌}
use Rattle.js_core.specs.Text.{Text}
use Rattle.js_values.specs.declared.ids.NodeId.{NodeId}
use Rattle.dom_tree.specs.declared.content.Content.{Content}
use Rattle.dom_tree.specs.declared.content.Kind.TheVariants as kind
use Rattle.dom_tree.specs.Attributes.{Pairs, value_of}
use Rattle.dom_tree.specs.Change.{inserted}
use Rattle.dom_tree.specs.Content.{new_content, with_attribute}
use Rattle.dom_tree.specs.Name.{folded}
use Rattle.dom_tree.specs.Node.{Nodes, with_new}
use Rattle.page_tokens.specs.declared.token.Tag.{Tag}

-- a list of trees: the first of them, and then the others
pub data Forest : Type 0 where
  no_trees : Forest
  element : Tag → Forest → Forest → Forest
  text : Text → Forest → Forest
  comment : Text → Forest → Forest

-- trees, and then others
abbrev pub joined : Forest → Forest → Forest
joined no_trees others = others
joined (element tag inner f) others = element tag inner (joined f others)
joined (text v f) others = text v (joined f others)
joined (comment v f) others = comment v (joined f others)

-- an attribute whose name is there already changes nothing
abbrev pub with_first : Content → Text × Text → Content
with_first c a = if is_some (value_of (folded a.0) c.attributes) then c else with_attribute c a.0 a.1

abbrev pub with_all : Content → Pairs → Content
with_all c [] = c
with_all c (a ∷ as') = with_all (with_first c a) as'

-- an element without its place
abbrev pub element_content : Tag → Content
element_content tag = with_all (new_content (kind.Element (folded tag.name))) tag.attributes

-- the node that is made next, by age
abbrev pub next_id : Nodes → NodeId
next_id t = record { 0 = length t }

-- one more node, which is the last child of this parent
abbrev pub appended : Nodes → NodeId → Content → Nodes
appended t p c = inserted (with_new t c) p (next_id t) None

-- the nodes of trees, in the order of the page, each made as the last child of its parent
abbrev pub grown : Forest → NodeId → Nodes → Nodes
grown no_trees p t = t
grown (element tag inner others) p t = grown others p (grown inner (next_id t) (appended t p (element_content tag)))
grown (text v others) p t = grown others p (appended t p (new_content (kind.Text v)))
grown (comment v others) p t = grown others p (appended t p (new_content (kind.Comment v)))
