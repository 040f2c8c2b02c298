-- Meaning: puts to references (section 8.7.2), and to host names (DOM Level 2 Core).
use Rattle.std.specs.Prelude.{[], ◌∷◌, Option, Some, None, length}
use Rattle.js_core.specs.Text.{Text}
use Rattle.js_values.specs.declared.ids.NodeId.{NodeId}
use Rattle.js_values.specs.declared.ids.ObjId.{ObjId}
use Rattle.js_values.specs.declared.throw.Throw.TheVariants.{CannotSet}
use Rattle.js_values.specs.declared.value.Value.{Value}
use Rattle.js_values.specs.declared.value.Value.TheVariants as value
use Rattle.dom_tree.specs.declared.content.Kind.{Kind}
use Rattle.dom_tree.specs.declared.content.Kind.TheVariants as kind
use Rattle.dom_tree.specs.Content.{has_text}
use Rattle.dom_tree.specs.Node.{kind_at}
use Rattle.object_heap.specs.declared.object.Class.{Class}
use Rattle.object_heap.specs.declared.object.Class.TheVariants as class
use Rattle.page_host.specs.declared.host_name.HostName.{HostName}
use Rattle.page_host.specs.declared.host_name.HostName.TheVariants.{NodeValue, TextContent, Id, ClassName, Value as HasValue, Data}
use Rattle.page_host.specs.HostNames.{host_name, text_step}
use Rattle.dom_tree.specs.Steps.{NodeStep, empties, inserts}
use Rattle.page_meaning.specs.Act.{Act, Calls, bind, give, done, also, asking, choose}
use Rattle.page_meaning.specs.Classes.{class_at}
use Rattle.page_meaning.specs.Convert.{text_in, to_text}
use Rattle.page_meaning.specs.Errors.{raise}
use Rattle.page_meaning.specs.HostNames.{Seen, hosted, has_host_name}
use Rattle.page_meaning.specs.Primitives.{changes_nodes, make_node}
use Rattle.page_meaning.specs.Properties.{put_in}
use Rattle.page_meaning.specs.Reading.{seen_at}

-- the nodes change so, which gives nothing
abbrev pub stepped : NodeStep → Act
stepped g = bind (changes_nodes g) (λ _. done)

-- the text of what is put; null is the empty one
abbrev pub text_or_empty : Calls → Value → Act
text_or_empty calls value.Null = give (value.Text [])
text_or_empty calls v = to_text calls v

abbrev pub put_text : Calls → NodeId → HostName → Value → Act
put_text calls k n v = also (text_or_empty calls v) (λ x. stepped (text_step k n (text_in x)))

abbrev pub put_attribute : Calls → NodeId → HostName → Value → Act
put_attribute calls k n v = also (to_text calls v) (λ x. stepped (text_step k n (text_in x)))

-- a text node for the text, as the last child; none for the empty one
abbrev pub fill : NodeId → Text → Act
fill k [] = done
fill k (u ∷ us) =
    asking (λ s. record { 0 = length s.host.nodes }) (λ c. bind (make_node (kind.Text (u ∷ us))) (λ _. stepped (inserts k c None)))

-- the text of an element takes the place of its children; a put on the document does nothing, and converts nothing
abbrev pub put_content : Calls → NodeId → Value → Kind → Act
put_content calls k v kind.Document = done
put_content calls k v (kind.Element name) = also (text_or_empty calls v) (λ x. bind (changes_nodes (empties k)) (λ _. fill k (text_in x)))
put_content calls k v (kind.Text old) = put_text calls k TextContent v
put_content calls k v (kind.Comment old) = put_text calls k TextContent v

-- what a put to a host name of a node does. A put to the `nodeValue` of others than texts and comments does nothing, and converts nothing
abbrev pub node_puts : Calls → NodeId → HostName → Value → Kind → Act
node_puts calls k NodeValue v e = choose (has_text e) (put_text calls k NodeValue v) done
node_puts calls k TextContent v e = put_content calls k v e
node_puts calls k Id v e = put_attribute calls k Id v
node_puts calls k ClassName v e = put_attribute calls k ClassName v
node_puts calls k HasValue v e = put_text calls k HasValue v
node_puts calls k Data v e = put_text calls k Data v
node_puts calls k n v e = raise CannotSet

abbrev pub host_puts : Calls → HostName → Value → Class → Act
host_puts calls n v (class.Node k) = asking (λ s. kind_at s.host.nodes k.0) (node_puts calls k n v)
host_puts calls n v c = raise CannotSet

-- what a put does that finds this of a host name: a property is put as any other; the object itself takes a host name of its own, and
-- one of an object above it may not be put
abbrev pub put_seen : Calls → ObjId → Text → HostName → Value → Option Seen → Act
put_seen calls at x n v (Some (hosted c)) =
    asking (λ s. has_host_name s.host.nodes (class_at s at) n) (λ own. choose own (asking (λ s. class_at s at) (host_puts calls n v)) (raise CannotSet))
put_seen calls at x n v o = put_in at x v

abbrev pub put_named : Calls → ObjId → Text → Value → Option HostName → Act
put_named calls at x v (Some n) = asking (λ s. seen_at s at x n) (put_seen calls at x n v)
put_named calls at x v None = put_in at x v

-- a reference to a property takes the value (8.7.2)
abbrev pub put_member : Calls → Value → Text → Value → Act
put_member calls (value.Object at) x v = put_named calls at x v (host_name x)
put_member calls base x v = raise CannotSet
