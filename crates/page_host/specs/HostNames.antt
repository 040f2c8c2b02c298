-- Host names, which nodes and events answer themselves (DOM Level 2 Core and Events), and what nodes do at them.
use Rattle.std.specs.Prelude.{ℕ, pos, ◌^◌, Bool, true, false, List, [], ◌∷◌, Option, Some, None, Result, Ok, Err, codes, bytes_eq, take, length, map, nat_eq, nat_le, ◌&&◌, unwrap_or, if◌then◌else◌}
use Rattle.std.specs.Char.{to_ascii_uppercase}
use Rattle.js_core.specs.Text.{Text}
use Rattle.js_values.specs.declared.ids.NodeId.{NodeId}
use Rattle.js_values.specs.declared.ids.ObjId.{ObjId}
use Rattle.js_values.specs.declared.throw.Throw.{Throw}
use Rattle.js_values.specs.declared.throw.Throw.TheVariants.{TextTooLong}
use Rattle.js_values.specs.declared.value.Value.{Value}
use Rattle.js_values.specs.declared.value.Value.TheVariants as value
use Rattle.dom_tree.specs.declared.content.Kind.{Kind}
use Rattle.dom_tree.specs.declared.content.Kind.TheVariants as kind
use Rattle.dom_tree.specs.Attributes.{value_of}
use Rattle.dom_tree.specs.Content.{has_text, is_named, text_of, type_of}
use Rattle.dom_tree.specs.DomText.{text_content}
use Rattle.dom_tree.specs.Node.{Nodes, children_at, first_of, is_document, is_element, kind_at, last_of, next_of, node_at, parent_at, previous_of}
use Rattle.dom_tree.specs.Sound.{document_element, takes_value}
use Rattle.dom_tree.specs.Steps.{NodeStep, is_there, sets_attribute, sets_text, sets_value}
use Rattle.dom_tree.specs.Trees.{first_named}
use Rattle.page_host.specs.declared.host_name.HostName.{HostName}
use Rattle.page_host.specs.declared.host_name.HostName.TheVariants.{NodeType, NodeName, NodeValue, ParentNode, FirstChild, LastChild, PreviousSibling, NextSibling, OwnerDocument, TextContent, TagName, Id, ClassName, Value as HasValue, Data, DocumentElement, Body, EventType, Target, CurrentTarget, EventPhase, Bubbles, Cancelable, TimeStamp}
use Rattle.page_host.specs.Host.{Host, document_of, object_of_node}

abbrev pub Named : Type 0
Named = List (Text × HostName)

abbrev pub host_names : Named
host_names =
    (codes "nodeType", NodeType) ∷ (codes "nodeName", NodeName) ∷ (codes "nodeValue", NodeValue) ∷ (codes "parentNode", ParentNode)
    ∷ (codes "firstChild", FirstChild) ∷ (codes "lastChild", LastChild) ∷ (codes "previousSibling", PreviousSibling) ∷ (codes "nextSibling", NextSibling)
    ∷ (codes "ownerDocument", OwnerDocument) ∷ (codes "textContent", TextContent) ∷ (codes "tagName", TagName) ∷ (codes "id", Id)
    ∷ (codes "className", ClassName) ∷ (codes "value", HasValue) ∷ (codes "data", Data) ∷ (codes "documentElement", DocumentElement) ∷ (codes "body", Body)
    ∷ (codes "type", EventType) ∷ (codes "target", Target) ∷ (codes "currentTarget", CurrentTarget) ∷ (codes "eventPhase", EventPhase)
    ∷ (codes "bubbles", Bubbles) ∷ (codes "cancelable", Cancelable) ∷ (codes "timeStamp", TimeStamp) ∷ []

abbrev pub name_among : Named → Text → Option HostName
name_among [] x = None
name_among (n ∷ ns) x = if bytes_eq x n.0 then Some n.1 else name_among ns x

-- those of so many units
abbrev pub of_length : ℕ → Named → Named
of_length n [] = []
of_length n (m ∷ ns) = if nat_eq n (length m.0) then m ∷ of_length n ns else of_length n ns

-- the host name that a text is, whatever has it
unfoldable pub host_name : Text → Option HostName
host_name x = name_among host_names x

-- whether a node of the kind has it
abbrev pub node_has : Kind → HostName → Bool
node_has k NodeType = true
node_has k NodeName = true
node_has k NodeValue = true
node_has k ParentNode = true
node_has k FirstChild = true
node_has k LastChild = true
node_has k PreviousSibling = true
node_has k NextSibling = true
node_has k OwnerDocument = true
node_has k TextContent = true
node_has k TagName = is_element k
node_has k Id = is_element k
node_has k ClassName = is_element k
node_has k HasValue = takes_value k
node_has k Data = has_text k
node_has k DocumentElement = is_document k
node_has k Body = is_document k
node_has k n = false

-- whether an event has it
abbrev pub event_has : HostName → Bool
event_has EventType = true
event_has Target = true
event_has CurrentTarget = true
event_has EventPhase = true
event_has Bubbles = true
event_has Cancelable = true
event_has TimeStamp = true
event_has n = false

-- whether the node has it. A node that is not there has none, so that nobody asks whether ids are in range
abbrev pub has_at_node : Nodes → NodeId → HostName → Bool
has_at_node t k n = is_there t k && node_has (kind_at t k.0) n

-- a name that begins with `on`
abbrev pub is_handler : Text → Bool
is_handler x = bytes_eq (take 2 x) (codes "on")

-- ---- what nodes read

abbrev pub node_value : List ObjId → Option NodeId → Value
node_value objects None = value.Null
node_value objects (Some k) = value.Object (object_of_node objects k)

abbrev pub text_or_null : Option Text → Value
text_or_null None = value.Null
text_or_null (Some x) = value.Text x

abbrev pub upper : Text → Text
upper x = map to_ascii_uppercase x

abbrev pub node_name : Kind → Text
node_name (kind.Element name) = upper name
node_name (kind.Text x) = codes "#text"
node_name (kind.Comment x) = codes "#comment"
node_name kind.Document = codes "#document"

-- the first `body` in the document's element
abbrev pub body_in : Nodes → Option NodeId → Option NodeId
body_in t None = None
body_in t (Some e) = first_named t (codes "body") (children_at t e.0)

-- how many units a text may have. It does not unfold.
unfoldable pub text_limit : ℕ
text_limit = 2 ^ 20

-- a text that was joined, which may be too long
abbrev pub text_or_long : Text → Result Value Throw
text_or_long x = if nat_le (length x) text_limit then Ok (value.Text x) else Err TextTooLong

-- the text of an element is joined
abbrev pub content_text : Nodes → NodeId → Kind → Result Value Throw
content_text t k kind.Document = Ok value.Null
content_text t k (kind.Element name) = text_or_long (text_content t k)
content_text t k (kind.Text x) = Ok (value.Text x)
content_text t k (kind.Comment x) = Ok (value.Text x)

abbrev pub attribute_at : Nodes → NodeId → Text → Option Text
attribute_at t k x = value_of x (node_at t k.0).content.attributes

-- what was set last, or else the attribute of an input, or the text of a textarea
abbrev pub value_at : Nodes → NodeId → Option Text → Kind → Result Value Throw
value_at t k (Some x) e = Ok (value.Text x)
value_at t k None e = if is_named (codes "input") e then Ok (value.Text (unwrap_or (attribute_at t k (codes "value")) [])) else text_or_long (text_content t k)

abbrev pub owner : List ObjId → Kind → Value
owner objects kind.Document = value.Null
owner objects k = value.Object (document_of objects)

abbrev pub reads_at : Nodes → List ObjId → NodeId → HostName → Result Value Throw
reads_at t objects k NodeType = Ok (value.Num (Some (pos (type_of (kind_at t k.0)))))
reads_at t objects k NodeName = Ok (value.Text (node_name (kind_at t k.0)))
reads_at t objects k NodeValue = Ok (text_or_null (text_of (kind_at t k.0)))
reads_at t objects k ParentNode = Ok (node_value objects (parent_at t k.0))
reads_at t objects k FirstChild = Ok (node_value objects (first_of (children_at t k.0)))
reads_at t objects k LastChild = Ok (node_value objects (last_of (children_at t k.0)))
reads_at t objects k PreviousSibling = Ok (node_value objects (previous_of t k.0))
reads_at t objects k NextSibling = Ok (node_value objects (next_of t k.0))
reads_at t objects k OwnerDocument = Ok (owner objects (kind_at t k.0))
reads_at t objects k TextContent = content_text t k (kind_at t k.0)
reads_at t objects k TagName = Ok (value.Text (node_name (kind_at t k.0)))
reads_at t objects k Id = Ok (value.Text (unwrap_or (attribute_at t k (codes "id")) []))
reads_at t objects k ClassName = Ok (value.Text (unwrap_or (attribute_at t k (codes "class")) []))
reads_at t objects k HasValue = value_at t k (node_at t k.0).content.value (kind_at t k.0)
reads_at t objects k Data = Ok (text_or_null (text_of (kind_at t k.0)))
reads_at t objects k DocumentElement = Ok (node_value objects (document_element t))
reads_at t objects k Body = Ok (node_value objects (body_in t (document_element t)))
reads_at t objects k n = Ok value.Undefined

abbrev pub node_reads : Host → NodeId → HostName → Result Value Throw
node_reads h k n = reads_at h.nodes h.objects k n

-- ---- what nodes take

-- the names at which a text is put; at all others nothing may be
abbrev pub is_put : HostName → Bool
is_put NodeValue = true
is_put TextContent = true
is_put Id = true
is_put ClassName = true
is_put HasValue = true
is_put Data = true
is_put n = false

-- what is done to a node where a host name takes a text; an element's `textContent` is filled anew instead
abbrev pub text_step : NodeId → HostName → Text → NodeStep
text_step k Id x = sets_attribute k (codes "id") x
text_step k ClassName x = sets_attribute k (codes "class") x
text_step k HasValue x = sets_value k x
text_step k n x = sets_text k x
