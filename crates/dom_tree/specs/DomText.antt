-- The text of nodes.
use Rattle.std.specs.Prelude.{ℕ, Bool, true, false, ◌&&◌, ◌==◌, List, [], ◌∷◌, ◌++◌, codes, bytes_eq, if◌then◌else◌}
use Rattle.std.specs.List.{flat_map, list_any}
use Rattle.js_core.specs.Text.{Text}
use Rattle.js_values.specs.declared.ids.NodeId.{NodeId}
use Rattle.dom_tree.specs.declared.content.Kind.{Kind}
use Rattle.dom_tree.specs.declared.content.Kind.TheVariants.{Comment, Document, Element}
use Rattle.dom_tree.specs.declared.content.Kind.TheVariants as kind
use Rattle.dom_tree.specs.Node.{Node, Nodes, children_at}
use Rattle.dom_tree.specs.Trees.{Trees, no_trees, tree, trees_of}

-- in text `&`, `<` and `>` are written as references
abbrev pub text_unit : ℕ → Text
text_unit u = if u == 38 then codes "&amp;" else (if u == 60 then codes "&lt;" else (if u == 62 then codes "&gt;" else u ∷ []))

-- in values `&`, `<` and `"`
abbrev pub value_unit : ℕ → Text
value_unit u = if u == 38 then codes "&amp;" else (if u == 60 then codes "&lt;" else (if u == 34 then codes "&quot;" else u ∷ []))

-- a space, the name, `=` and the value in double quotes
abbrev pub attribute_text : Text × Text → Text
attribute_text a = codes " " ++ a.0 ++ codes "=\"" ++ flat_map value_unit a.1 ++ codes "\""

-- elements that have no end tag where they have no child
abbrev pub void_names : List Text
void_names =
    codes "area" ∷ codes "base" ∷ codes "br" ∷ codes "col" ∷ codes "embed" ∷ codes "hr" ∷ codes "img" ∷ codes "input" ∷ codes "link" ∷ codes "meta" ∷ codes "param"
    ∷ codes "source" ∷ codes "track" ∷ codes "wbr" ∷ []

abbrev pub is_void : Text → Bool
is_void name = list_any (bytes_eq name) void_names

abbrev pub is_empty : List NodeId → Bool
is_empty [] = true
is_empty (c ∷ l) = false

-- the tags of an element, and a comment
abbrev pub start_tag : Text → List (Text × Text) → Text
start_tag name attributes = codes "<" ++ name ++ flat_map attribute_text attributes ++ codes ">"

abbrev pub end_tag : Text → Text
end_tag name = codes "</" ++ name ++ codes ">"

abbrev pub comment_text : Text → Text
comment_text text = codes "<!--" ++ text ++ codes "-->"

-- what of the text of a node comes before that of its children, and what comes after it
abbrev pub opening : Kind → List (Text × Text) → Text
opening (Element name) attributes = start_tag name attributes
opening (kind.Text text) attributes = flat_map text_unit text
opening (Comment text) attributes = comment_text text
opening Document attributes = []

abbrev pub closing : Kind → Bool → Text
closing (Element name) childless = if is_void name && childless then [] else end_tag name
closing k childless = []

abbrev pub opening_of : Node → Text
opening_of n = opening n.content.kind n.content.attributes

abbrev pub closing_of : Node → Text
closing_of n = closing n.content.kind (is_empty n.children)

-- the texts of trees, joined
abbrev pub dom_texts : Trees → Text
dom_texts no_trees = []
dom_texts (tree k n under others) = opening_of n ++ dom_texts under ++ closing_of n ++ dom_texts others

abbrev pub dom_text : Nodes → NodeId → Text
dom_text t k = dom_texts (trees_of t (k ∷ []))

abbrev pub own_text : Kind → Text
own_text (kind.Text text) = text
own_text k = []

-- the texts of the text nodes of trees, joined
abbrev pub joined_texts : Trees → Text
joined_texts no_trees = []
joined_texts (tree k n under others) = own_text n.content.kind ++ joined_texts under ++ joined_texts others

-- the joined text of the text nodes under a node
abbrev pub text_content : Nodes → NodeId → Text
text_content t k = joined_texts (trees_of t (children_at t k.0))
