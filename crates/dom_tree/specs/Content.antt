-- What changes of a node without its place.
use Rattle.std.specs.Prelude.{◌≡◌, ℕ, Bool, true, false, [], Option, Some, None, bytes_eq}
use Rattle.js_core.specs.Text.{Text}
use Rattle.dom_tree.specs.declared.content.Content.{Content}
use Rattle.dom_tree.specs.declared.content.Kind.{Kind}
use Rattle.dom_tree.specs.declared.content.Kind.TheVariants.{Comment, Document, Element}
use Rattle.dom_tree.specs.declared.content.Kind.TheVariants as kind
use Rattle.js_core.specs.declared.memory.Failure.{Failure}
use Rattle.dom_tree.specs.declared.fault.DomError.{DomError}
use Rattle.js_core.specs.declared.memory.Failure.TheVariants.{Cause, OutOfMemory}
use Rattle.dom_tree.specs.declared.fault.DomError.TheVariants.{BadName}
use Rattle.dom_tree.specs.Attributes.{Pairs, with_value_of, without_value_of}
use Rattle.dom_tree.specs.Name.{folded, is_name}

-- a new node has neither attributes nor a set value
abbrev pub new_content : Kind → Content
new_content k = record { kind = k; attributes = []; value = None }

-- the text of a text or comment becomes another
abbrev pub kind_with_text : Kind → Text → Kind
kind_with_text (kind.Text old) text = kind.Text text
kind_with_text (Comment old) text = Comment text
kind_with_text k text = k

abbrev pub with_text : Content → Text → Content
with_text c text = record { kind = kind_with_text c.kind text; attributes = c.attributes; value = c.value }

abbrev pub with_value : Content → Text → Content
with_value c text = record { kind = c.kind; attributes = c.attributes; value = Some text }

abbrev pub with_attributes : Content → Pairs → Content
with_attributes c attributes = record { kind = c.kind; attributes = attributes; value = c.value }

-- the attribute whose name is this one in lower case takes the value, or is gone
abbrev pub with_attribute : Content → Text → Text → Content
with_attribute c name v = with_attributes c (with_value_of (folded name) v c.attributes)

abbrev pub without_attribute : Content → Text → Content
without_attribute c name = with_attributes c (without_value_of (folded name) c.attributes)

-- the name of an element, and whether it is this one
abbrev pub name_of : Kind → Option Text
name_of (Element name) = Some name
name_of k = None

abbrev pub is_named : Text → Kind → Bool
is_named x (Element name) = bytes_eq name x
is_named x k = false

-- the text of a text or comment
abbrev pub text_of : Kind → Option Text
text_of (kind.Text text) = Some text
text_of (Comment text) = Some text
text_of k = None

abbrev pub has_text : Kind → Bool
has_text (kind.Text text) = true
has_text (Comment text) = true
has_text k = false

-- the number of the kind (DOM Level 2 Core, interface Node)
abbrev pub type_of : Kind → ℕ
type_of (Element name) = 1
type_of (kind.Text text) = 3
type_of (Comment text) = 8
type_of Document = 9

-- a name is refused exactly where it is none; memory can run out only where it is one
abbrev pub IsNameFault : Text → Failure DomError → Type 0
IsNameFault name (Cause BadName) = is_name name ≡ false
IsNameFault name OutOfMemory = is_name name ≡ true
IsNameFault name f = ⊥
