-- Meaning: what the prototypes of nodes and events hold (DOM Level 2 Core and Events), but for dispatch. In each row `this` is tested first,
-- then the nodes among the arguments from the left, then the arguments are converted from the left, and then all else.
use Rattle.std.specs.Prelude.{ℕ, Bool, not, List, [], ◌∷◌, Option, Some, None, is_some, codes, bytes_eq, if◌then◌else◌}
use Rattle.std.specs.List.{list_any}
use Rattle.js_core.specs.Text.{Text}
use Rattle.js_values.specs.declared.built_in.BuiltIn.{BuiltIn}
use Rattle.js_values.specs.declared.built_in.BuiltIn.TheVariants as built_in
use Rattle.js_values.specs.declared.ids.NodeId.{NodeId}
use Rattle.js_values.specs.declared.ids.ObjId.{ObjId}
use Rattle.js_values.specs.declared.throw.Throw.{Throw}
use Rattle.js_values.specs.declared.throw.Throw.TheVariants.{Hierarchy as HierarchyError, InvalidCharacter, NotFound as NotFoundError, NotSupported, WrongArgument}
use Rattle.js_values.specs.declared.value.Value.{Value}
use Rattle.js_values.specs.declared.value.Value.TheVariants as value
use Rattle.dom_tree.specs.declared.content.Kind.{Kind}
use Rattle.dom_tree.specs.declared.content.Kind.TheVariants as kind
use Rattle.dom_tree.specs.declared.fault.DomError.{DomError}
use Rattle.dom_tree.specs.declared.fault.DomError.TheVariants.{Hierarchy, NotFound, BadName}
use Rattle.dom_tree.specs.Change.{insertion_error, removal_error, replacement_error}
use Rattle.dom_tree.specs.DomText.{is_empty}
use Rattle.dom_tree.specs.Name.{folded, is_name}
use Rattle.dom_tree.specs.Node.{Nodes, children_at, is_document, is_element, kind_at}
use Rattle.dom_tree.specs.Trees.{find_id}
use Rattle.object_heap.specs.declared.object.Class.{Class}
use Rattle.object_heap.specs.declared.object.Class.TheVariants as class
use Rattle.object_heap.specs.declared.object.EventParts.{EventParts}
use Rattle.page_host.specs.declared.listener.Listener.{Listener}
use Rattle.page_host.specs.HostNames.{attribute_at, is_handler, node_value, text_or_null}
use Rattle.dom_tree.specs.Steps.{NodeStep, drops_attribute, inserts, is_there, replaces, sets_attribute, takes_out}
use Rattle.page_host.specs.Steps.{HostStep, forgets, listens}
use Rattle.whole_ops.specs.Conversions.{is_true}
use Rattle.page_meaning.specs.Act.{Act, Calls, bind, give, done, also, asking, choose}
use Rattle.page_meaning.specs.Classes.{class_of}
use Rattle.page_meaning.specs.Convert.{text_in, to_text}
use Rattle.page_meaning.specs.Errors.{raise}
use Rattle.page_meaning.specs.Events.{EventStep, initialises, stops, prevents}
use Rattle.page_meaning.specs.FunctionRows.{is_callable}
use Rattle.page_meaning.specs.Functions.{object_of}
use Rattle.page_meaning.specs.HostPuts.{stepped}
use Rattle.page_meaning.specs.ObjectRows.{argument}
use Rattle.page_meaning.specs.Primitives.{changes_event, changes_host, changes_nodes, make_event, make_node}

-- ---- what the rows test

-- the node that a value is, where it is there; the parts of the event that it is
abbrev pub node_in : Nodes → Option Class → Option NodeId
node_in t (Some (class.Node k)) = if is_there t k then Some k else None
node_in t c = None

abbrev pub parts_in : Option Class → Option EventParts
parts_in (Some (class.Event parts)) = Some parts
parts_in c = None

abbrev pub object_in : Value → Option ObjId
object_in (value.Object at) = Some at
object_in v = None

abbrev pub or_wrong : {A : Type 0} → (A → Act) → Option A → Act
or_wrong f None = raise WrongArgument
or_wrong f (Some a) = f a

abbrev pub on_node : Value → (NodeId → Act) → Act
on_node v f = asking (λ s. node_in s.host.nodes (class_of s v)) (or_wrong f)

-- a node of such a kind
abbrev pub on_kind : (Kind → Bool) → Value → (NodeId → Act) → Act
on_kind test v f = on_node v (λ k. asking (λ s. test (kind_at s.host.nodes k.0)) (λ b. choose b (f k) (raise WrongArgument)))

abbrev pub on_event : Value → (ObjId → EventParts → Act) → Act
on_event v f = asking (λ s. parts_in (class_of s v)) (or_wrong (λ parts. or_wrong (λ at. f at parts) (object_in v)))

-- an argument as a text
abbrev pub with_text : Calls → List Value → ℕ → (Text → Act) → Act
with_text calls vs i f = also (to_text calls (argument vs i)) (λ x. f (text_in x))

-- a function
abbrev pub with_callback : Value → (ObjId → Act) → Act
with_callback v f = asking (is_callable v) (λ b. choose b (or_wrong f (object_in v)) (raise WrongArgument))

-- ---- nodes

abbrev pub dom_throw : DomError → Throw
dom_throw Hierarchy = HierarchyError
dom_throw NotFound = NotFoundError
dom_throw BadName = InvalidCharacter

-- the nodes change so, where nothing is refused, and then the value is given
abbrev pub unless_refused : Option DomError → NodeStep → Value → Act
unless_refused None g v = bind (changes_nodes g) (λ _. give v)
unless_refused (Some e) g v = raise (dom_throw e)

abbrev pub insert : NodeId → NodeId → Option NodeId → Value → Act
insert p c before v = asking (λ s. insertion_error s.host.nodes p c before) (λ e. unless_refused e (inserts p c before) v)

-- null is the end; undefined is of the wrong kind
abbrev pub insert_before : NodeId → NodeId → Value → Value → Act
insert_before p c value.Null v = insert p c None v
insert_before p c r v = on_node r (λ k. insert p c (Some k) v)

abbrev pub replace : NodeId → NodeId → NodeId → Value → Act
replace p c old v = asking (λ s. replacement_error s.host.nodes p c old) (λ e. unless_refused e (replaces p c old) v)

abbrev pub remove : NodeId → NodeId → Value → Act
remove p c v = asking (λ s. removal_error s.host.nodes p c) (λ e. unless_refused e (takes_out c) v)

abbrev pub has_children : NodeId → Act
has_children k = asking (λ s. not (is_empty (children_at s.host.nodes k.0))) (λ b. give (value.Bool b))

-- ---- attributes

abbrev pub get_attribute : NodeId → Text → Act
get_attribute k x = asking (λ s. attribute_at s.host.nodes k (folded x)) (λ o. give (text_or_null o))

abbrev pub has_attribute : NodeId → Text → Act
has_attribute k x = asking (λ s. attribute_at s.host.nodes k (folded x)) (λ o. give (value.Bool (is_some o)))

-- a handler is refused before the name is judged
abbrev pub set_attribute : NodeId → Text → Text → Act
set_attribute k x v = choose (is_handler (folded x)) (raise WrongArgument) (choose (is_name x) (stepped (sets_attribute k x v)) (raise InvalidCharacter))

-- ---- the document

abbrev pub get_by_id : Text → Act
get_by_id x = asking (λ s. node_value s.host.objects (find_id s.host.nodes x)) give

abbrev pub new_node : Kind → Act
new_node k = bind (make_node k) object_of

abbrev pub create_element : Text → Act
create_element x = choose (is_name x) (new_node (kind.Element (folded x))) (raise InvalidCharacter)

abbrev pub event_words : List Text
event_words = codes "event" ∷ codes "events" ∷ codes "htmlevents" ∷ []

abbrev pub create_event : Text → Act
create_event x = choose (list_any (bytes_eq (folded x)) event_words) (bind make_event object_of) (raise NotSupported)

-- ---- listeners and events

abbrev pub listener_of : NodeId → Text → ObjId → Bool → Listener
listener_of k x f capture = record { node = k; kind = x; call = f; capture = capture }

abbrev pub change_listeners : (Listener → HostStep) → Calls → NodeId → List Value → Act
change_listeners g calls k vs =
    with_text calls vs 0
    (λ x. with_callback (argument vs 1) (λ f. bind (changes_host (g (listener_of k x f (is_true (argument vs 2))))) (λ _. done)))

abbrev pub change_event : ObjId → EventStep → Act
change_event at g = bind (changes_event at g) (λ _. done)

-- ---- the rows

abbrev pub event_row : Calls → BuiltIn → Value → List Value → Act
event_row calls built_in.EventPrototypeInitEvent this vs =
    on_event this (λ at parts. with_text calls vs 0 (λ x. change_event at (initialises x (is_true (argument vs 1)) (is_true (argument vs 2)))))
event_row calls built_in.EventPrototypeStopPropagation this vs = on_event this (λ at parts. change_event at stops)
event_row calls built_in.EventPrototypePreventDefault this vs = on_event this (λ at parts. change_event at prevents)
event_row calls which this vs = raise WrongArgument

abbrev pub document_row : Calls → BuiltIn → Value → List Value → Act
document_row calls built_in.NodePrototypeGetElementById this vs = on_kind is_document this (λ k. with_text calls vs 0 get_by_id)
document_row calls built_in.NodePrototypeCreateElement this vs = on_kind is_document this (λ k. with_text calls vs 0 create_element)
document_row calls built_in.NodePrototypeCreateTextNode this vs = on_kind is_document this (λ k. with_text calls vs 0 (λ x. new_node (kind.Text x)))
document_row calls built_in.NodePrototypeCreateComment this vs = on_kind is_document this (λ k. with_text calls vs 0 (λ x. new_node (kind.Comment x)))
document_row calls built_in.NodePrototypeCreateEvent this vs = on_kind is_document this (λ k. with_text calls vs 0 create_event)
document_row calls which this vs = event_row calls which this vs

-- at once, on nodes and events: which it is, `this` and the arguments
abbrev pub node_row : Calls → BuiltIn → Value → List Value → Act
node_row calls built_in.NodePrototypeInsertBefore this vs =
    on_node this (λ p. on_node (argument vs 0) (λ c. insert_before p c (argument vs 1) (argument vs 0)))
node_row calls built_in.NodePrototypeReplaceChild this vs =
    on_node this (λ p. on_node (argument vs 0) (λ c. on_node (argument vs 1) (λ old. replace p c old (argument vs 1))))
node_row calls built_in.NodePrototypeRemoveChild this vs = on_node this (λ p. on_node (argument vs 0) (λ c. remove p c (argument vs 0)))
node_row calls built_in.NodePrototypeAppendChild this vs = on_node this (λ p. on_node (argument vs 0) (λ c. insert p c None (argument vs 0)))
node_row calls built_in.NodePrototypeHasChildNodes this vs = on_node this has_children
node_row calls built_in.NodePrototypeGetAttribute this vs = on_kind is_element this (λ k. with_text calls vs 0 (get_attribute k))
node_row calls built_in.NodePrototypeSetAttribute this vs = on_kind is_element this (λ k. with_text calls vs 0 (λ x. with_text calls vs 1 (set_attribute k x)))
node_row calls built_in.NodePrototypeRemoveAttribute this vs = on_kind is_element this (λ k. with_text calls vs 0 (λ x. stepped (drops_attribute k x)))
node_row calls built_in.NodePrototypeHasAttribute this vs = on_kind is_element this (λ k. with_text calls vs 0 (has_attribute k))
node_row calls built_in.NodePrototypeAddEventListener this vs = on_node this (λ k. change_listeners listens calls k vs)
node_row calls built_in.NodePrototypeRemoveEventListener this vs = on_node this (λ k. change_listeners forgets calls k vs)
node_row calls which this vs = document_row calls which this vs
