-- What the prototypes of nodes and events hold (DOM Level 2 Core and Events).
use Rattle.std.proofs.Common.{List}
use Rattle.std.specs.Prelude.{Option, Some, None, bytes_eq, is_some}
use Rattle.std.specs.List.{list_any}
use Rattle.js_core.specs.Text.{Text}
use Rattle.js_values.specs.declared.built_in.BuiltIn.{BuiltIn}
use Rattle.js_values.specs.declared.built_in.BuiltIn.TheVariants as built_in
use Rattle.js_values.specs.declared.ids.NodeId.{NodeId}
use Rattle.js_values.specs.declared.ids.ObjId.{ObjId}
use Rattle.js_values.specs.declared.throw.Throw.TheVariants.{InvalidCharacter, NotSupported, WrongArgument}
use Rattle.js_values.specs.declared.value.Value.{Value}
use Rattle.js_values.specs.declared.value.Value.TheVariants as value
use Rattle.dom_tree.specs.declared.content.Kind.{Kind}
use Rattle.dom_tree.specs.declared.content.Kind.TheVariants as kind
use Rattle.dom_tree.specs.declared.fault.DomError.{DomError}
use Rattle.dom_tree.specs.declared.fault.DomError.TheVariants.{BadName, Hierarchy, NotFound}
use Rattle.dom_tree.specs.Name.{folded, is_name}
use Rattle.dom_tree.specs.Node.{is_document, is_element}
use Rattle.dom_tree.specs.Steps.{NodeStep, drops_attribute, inserts, replaces, sets_attribute, takes_out}
use Rattle.dom_tree.specs.Trees.{find_id}
use Rattle.page_host.specs.declared.listener.Listener.{Listener}
use Rattle.page_host.specs.HostNames.{is_handler, node_value, text_or_null}
use Rattle.page_host.specs.Steps.{HostStep, forgets, listens}
use Rattle.whole_ops.specs.Conversions.{is_true}
use Rattle.page_meaning.specs.Act.{Calls}
use Rattle.page_meaning.specs.Events.{EventStep, initialises, prevents, stops}
use Rattle.page_meaning.specs.NodeRows.{change_event, change_listeners, create_element, create_event, document_row, dom_throw, event_row, event_words, get_attribute, get_by_id, has_attribute, has_children, insert, insert_before, listener_of, new_node, node_row, remove, replace, set_attribute, unless_refused}
use Rattle.page_meaning.specs.ObjectRows.{argument}
use Rattle.literal_values.specs.Nodes.{LiteralKind, LiteralNodeStep}
use Rattle.literal_values.specs.Stores.{LiteralEventStep, LiteralHostStep, LiteralListener}
use Rattle.literal_values.specs.Values.{AreBounded, IsBounded, IsText, LiteralThrow, MaybeText}
use Rattle.written_pages.proofs.Acts.{asking_any, asking_is, bind_is, choose_is, done_is, give_is}
use Rattle.literal_values.proofs.Callers.{attribute_text, lower_text, value_at}
use Rattle.written_pages.proofs.HostPuts.{nodes_step_is}
use Rattle.written_pages.proofs.OnNodes.{on_event_is, on_kind_is, on_node_is, with_callback_is, with_text_is}
use Rattle.written_pages.proofs.Primitives.{changes_event_is, changes_host_is, changes_nodes_is, make_event_is, make_node_is, raise_is}
use Rattle.written_pages.specs.Acts.{CallsAre, Writes}

-- ---- nodes

dom_literal : (e : DomError) → LiteralThrow (dom_throw e)
dom_literal Hierarchy = tt
dom_literal NotFound = tt
dom_literal BadName = tt

unless_refused_is : (o : Option DomError) (g : NodeStep) (v : Value) → LiteralNodeStep g → IsBounded v → Writes (unless_refused o g v)
unless_refused_is None g v h k = bind_is (changes_nodes_is g h) (λ u p. give_is v k)
unless_refused_is (Some e) g v h k = raise_is (dom_throw e) (dom_literal e)

insert_is : (p c : NodeId) (before : Option NodeId) (v : Value) → IsBounded v → Writes (insert p c before v)
insert_is p c before v h = asking_any (λ e. unless_refused_is e (inserts p c before) v tt h)

insert_before_is : (p c : NodeId) (r v : Value) → IsBounded v → Writes (insert_before p c r v)
insert_before_is p c value.Null v h = insert_is p c None v h
insert_before_is p c r v h = on_node_is r (λ k. insert_is p c (Some k) v h)

replace_is : (p c old : NodeId) (v : Value) → IsBounded v → Writes (replace p c old v)
replace_is p c old v h = asking_any (λ e. unless_refused_is e (replaces p c old) v tt h)

remove_is : (p c : NodeId) (v : Value) → IsBounded v → Writes (remove p c v)
remove_is p c v h = asking_any (λ e. unless_refused_is e (takes_out c) v tt h)

has_children_is : (k : NodeId) → Writes (has_children k)
has_children_is k = asking_any (λ b. give_is (value.Bool b) tt)

-- ---- attributes

text_bounded : (o : Option Text) → MaybeText o → IsBounded (text_or_null o)
text_bounded None h = tt
text_bounded (Some x) h = h

get_attribute_is : (k : NodeId) (x : Text) → Writes (get_attribute k x)
get_attribute_is k x =
    asking_is MaybeText (λ s l. attribute_text s.host.nodes l.host.nodes k (folded x)) (λ o p. give_is (text_or_null o) (text_bounded o p))

has_attribute_is : (k : NodeId) (x : Text) → Writes (has_attribute k x)
has_attribute_is k x = asking_any (λ o. give_is (value.Bool (is_some o)) tt)

set_attribute_is : (k : NodeId) (x v : Text) → IsText x → IsText v → Writes (set_attribute k x v)
set_attribute_is k x v h i =
    choose_is (is_handler (folded x)) (raise_is WrongArgument tt)
    (choose_is (is_name x) (nodes_step_is (sets_attribute k x v) (h, i)) (raise_is InvalidCharacter tt))

-- ---- the document

found_value : (objects : List ObjId) (o : Option NodeId) → IsBounded (node_value objects o)
found_value objects None = tt
found_value objects (Some k) = tt

get_by_id_is : (x : Text) → Writes (get_by_id x)
get_by_id_is x = asking_is IsBounded (λ s l. found_value s.host.objects (find_id s.host.nodes x)) (λ v h. give_is v h)

new_node_is : (k : Kind) → LiteralKind k → Writes (new_node k)
new_node_is k h = bind_is (make_node_is k h) (λ at p. give_is (value.Object at) tt)

create_element_is : (x : Text) → IsText x → Writes (create_element x)
create_element_is x h = choose_is (is_name x) (new_node_is (kind.Element (folded x)) (lower_text x h)) (raise_is InvalidCharacter tt)

create_event_is : (x : Text) → Writes (create_event x)
create_event_is x =
    choose_is (list_any (bytes_eq (folded x)) event_words) (bind_is make_event_is (λ at p. give_is (value.Object at) tt)) (raise_is NotSupported tt)

-- ---- listeners and events

change_listeners_is : {calls : Calls} (g : Listener → HostStep) → ((l : Listener) → LiteralListener l → LiteralHostStep (g l)) → CallsAre calls
    → (k : NodeId) (vs : List Value) → AreBounded vs → Writes (change_listeners g calls k vs)
change_listeners_is g steps c k vs h =
    with_text_is c vs 0 h
    (λ x p. with_callback_is (argument vs 1)
    (λ f. bind_is (changes_host_is (g (listener_of k x f (is_true (argument vs 2)))) (steps (listener_of k x f (is_true (argument vs 2))) p)) (λ u q. done_is)))

change_event_is : (at : ObjId) (g : EventStep) → LiteralEventStep g → Writes (change_event at g)
change_event_is at g h = bind_is (changes_event_is at g h) (λ u p. done_is)

-- ---- the rows

event_row_is : {calls : Calls} → CallsAre calls → (which : BuiltIn) (this : Value) (vs : List Value) → AreBounded vs → Writes (event_row calls which this vs)
event_row_is c built_in.EventPrototypeInitEvent this vs h =
    on_event_is this (λ at parts. with_text_is c vs 0 h (λ x p. change_event_is at (initialises x (is_true (argument vs 1)) (is_true (argument vs 2))) p))
event_row_is c built_in.EventPrototypeStopPropagation this vs h = on_event_is this (λ at parts. change_event_is at stops tt)
event_row_is c built_in.EventPrototypePreventDefault this vs h = on_event_is this (λ at parts. change_event_is at prevents tt)
event_row_is c which this vs h = raise_is WrongArgument tt

document_row_is : {calls : Calls} → CallsAre calls → (which : BuiltIn) (this : Value) (vs : List Value) → AreBounded vs → Writes (document_row calls which this vs)
document_row_is c built_in.NodePrototypeGetElementById this vs h = on_kind_is is_document this (λ k. with_text_is c vs 0 h (λ x p. get_by_id_is x))
document_row_is c built_in.NodePrototypeCreateElement this vs h = on_kind_is is_document this (λ k. with_text_is c vs 0 h create_element_is)
document_row_is c built_in.NodePrototypeCreateTextNode this vs h = on_kind_is is_document this (λ k. with_text_is c vs 0 h (λ x p. new_node_is (kind.Text x) p))
document_row_is c built_in.NodePrototypeCreateComment this vs h = on_kind_is is_document this (λ k. with_text_is c vs 0 h (λ x p. new_node_is (kind.Comment x) p))
document_row_is c built_in.NodePrototypeCreateEvent this vs h = on_kind_is is_document this (λ k. with_text_is c vs 0 h (λ x p. create_event_is x))
document_row_is c which this vs h = event_row_is c which this vs h

-- at once, on nodes and events
pub node_row_is : {calls : Calls} → CallsAre calls → (which : BuiltIn) (this : Value) (vs : List Value) → IsBounded this → AreBounded vs → Writes (node_row calls which this vs)
node_row_is c built_in.NodePrototypeInsertBefore this vs b h =
    on_node_is this (λ p. on_node_is (argument vs 0) (λ k. insert_before_is p k (argument vs 1) (argument vs 0) (value_at vs 0 h)))
node_row_is c built_in.NodePrototypeReplaceChild this vs b h =
    on_node_is this (λ p. on_node_is (argument vs 0) (λ k. on_node_is (argument vs 1) (λ old. replace_is p k old (argument vs 1) (value_at vs 1 h))))
node_row_is c built_in.NodePrototypeRemoveChild this vs b h = on_node_is this (λ p. on_node_is (argument vs 0) (λ k. remove_is p k (argument vs 0) (value_at vs 0 h)))
node_row_is c built_in.NodePrototypeAppendChild this vs b h =
    on_node_is this (λ p. on_node_is (argument vs 0) (λ k. insert_is p k None (argument vs 0) (value_at vs 0 h)))
node_row_is c built_in.NodePrototypeHasChildNodes this vs b h = on_node_is this has_children_is
node_row_is c built_in.NodePrototypeGetAttribute this vs b h = on_kind_is is_element this (λ k. with_text_is c vs 0 h (λ x p. get_attribute_is k x))
node_row_is c built_in.NodePrototypeSetAttribute this vs b h =
    on_kind_is is_element this (λ k. with_text_is c vs 0 h (λ x p. with_text_is c vs 1 h (λ v q. set_attribute_is k x v p q)))
node_row_is c built_in.NodePrototypeRemoveAttribute this vs b h = on_kind_is is_element this (λ k. with_text_is c vs 0 h (λ x p. nodes_step_is (drops_attribute k x) tt))
node_row_is c built_in.NodePrototypeHasAttribute this vs b h = on_kind_is is_element this (λ k. with_text_is c vs 0 h (λ x p. has_attribute_is k x))
node_row_is c built_in.NodePrototypeAddEventListener this vs b h = on_node_is this (λ k. change_listeners_is listens (λ l p. p) c k vs h)
node_row_is c built_in.NodePrototypeRemoveEventListener this vs b h = on_node_is this (λ k. change_listeners_is forgets (λ l p. tt) c k vs h)
node_row_is c which this vs b h = document_row_is c which this vs h
