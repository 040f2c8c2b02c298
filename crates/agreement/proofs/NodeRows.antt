-- What the prototypes of nodes and events hold, in both pages (DOM Level 2 Core and Events).
use Rattle.std.proofs.Common.{◌≡◌, refl, ap, subst, Bool, true, false, not, List, Option, Some, None, is_some}
use Rattle.std.proofs.lemmas.Bool.{and_from}
use Rattle.std.specs.Prelude.{bytes_eq}
use Rattle.std.specs.List.{list_any}
use Rattle.js_core.specs.Text.{Text}
use Rattle.js_values.specs.declared.built_in.BuiltIn.{BuiltIn}
use Rattle.js_values.specs.declared.built_in.BuiltIn.TheVariants as built_in
use Rattle.js_values.specs.declared.ids.NodeId.{NodeId}
use Rattle.js_values.specs.declared.ids.ObjId.{ObjId}
use Rattle.js_values.specs.declared.throw.Throw.TheVariants.{InvalidCharacter, NotSupported, WrongArgument}
use Rattle.js_values.specs.declared.value.Value.{Value}
use Rattle.dom_tree.proofs.Callers.{folded_name}
use Rattle.dom_tree.specs.Attributes.{value_of}
use Rattle.dom_tree.specs.declared.content.Kind.{Kind}
use Rattle.dom_tree.specs.declared.content.Kind.TheVariants as kind
use Rattle.dom_tree.specs.declared.fault.DomError.{DomError}
use Rattle.dom_tree.specs.DomText.{is_empty}
use Rattle.dom_tree.specs.Name.{folded, is_folded_name, is_name}
use Rattle.dom_tree.specs.Node.{is_document, is_element}
use Rattle.dom_tree.specs.Steps.{NodeStep, drops_attribute, inserts, replaces, sets_attribute, takes_out}
use Rattle.page_host.specs.declared.listener.Listener.{Listener}
use Rattle.page_host.specs.HostNames.{attribute_at, is_handler, node_value, text_or_null}
use Rattle.page_host.specs.Steps.{HostStep, forgets, listens, may_be_made}
use Rattle.whole_ops.specs.Conversions.{is_true}
use Rattle.page_meaning.specs.Act.{Calls, choose}
use Rattle.page_meaning.specs.Errors.{raise}
use Rattle.page_meaning.specs.Events.{EventStep, initialises, prevents, stops}
use Rattle.page_meaning.specs.NodeRows.{change_event, change_listeners, create_element, create_event, document_row, dom_throw, event_row, event_words, get_attribute, get_by_id, has_attribute, has_children, insert, insert_before, listener_of, new_node, node_row, on_node, remove, replace, set_attribute, unless_refused}
use Rattle.page_meaning.specs.ObjectRows.{argument}
use Rattle.page_meaning.specs.Store.{Store}
use Rattle.heap_relations.proofs.Callers.{larger_more}
use Rattle.heap_relations.specs.Naming.{Larger, Named, World, named}
use Rattle.heap_relations.specs.Related.{Each, ValueRel, each, no_more, none, null, num, object, some, text, truth, undefined}
use Rattle.host_relations.proofs.Callers as host
use Rattle.host_relations.proofs.Callers.{linked_up}
use Rattle.host_relations.specs.Hosts.{ListenerRel, StepRel, forgets_rel, listens_rel}
use Rattle.host_relations.specs.Linked.{Linked}
use Rattle.host_relations.specs.NodeSteps.{NodeStepRel, drops_attribute_rel, inserts_rel, replaces_rel, sets_attribute_rel, takes_out_rel}
use Rattle.agreement.specs.Acts.{Agrees, Equal, StoreRel, clocks_of}
use Rattle.agreement.proofs.Acts.{asking_rel, bind_rel, choose_rel}
use Rattle.agreement.proofs.Called.{is_true_same}
use Rattle.agreement.proofs.Descriptors.{truth_same}
use Rattle.agreement.proofs.EventSteps.{EventStepRel, changes_event_rel, initialises_rel, prevents_rel, stops_rel}
use Rattle.agreement.proofs.Heap.{named_up, value_up, values_up}
use Rattle.agreement.proofs.HostSteps.{changes_host_rel, changes_nodes_rel, stepped_rel}
use Rattle.agreement.proofs.NewNodes.{make_event_rel, make_node_rel}
use Rattle.agreement.proofs.ObjectRows.{argument_rel}
use Rattle.agreement.proofs.OnNodes.{FoundNode, found_up, on_event_rel, on_kind_rel, on_node_rel, with_callback_rel, with_text_rel}
use Rattle.agreement.proofs.Values.{done_rel, give_rel, object_value_rel, raise_rel}

-- ---- nodes

unless_refused_rel : {V : World} {v w : Value} (o p : Option DomError) (x y : NodeStep) → o ≡ p → ((W : World) → Larger V W → NodeStepRel W x y) → ValueRel (named V) v w
    → Agrees V (unless_refused o x v) (unless_refused p y w)
unless_refused_rel None None x y e h k = bind_rel {R = Equal} (changes_nodes_rel {x = x} {y = y} h) (λ W l a b q. give_rel (value_up l k))
unless_refused_rel {V = V} {w = w} (Some a) (Some b) x y e h k = subst (λ z. Agrees V (raise (dom_throw a)) (unless_refused z y w)) e (raise_rel (dom_throw a))
unless_refused_rel None (Some b) x y e h k = absurd (cc e)
unless_refused_rel (Some a) None x y e h k = absurd (cc e)

insert_rel : {V : World} {v w : Value} (p c q d : NodeId) (before after : Option NodeId) → Linked V p.0 q.0 → Linked V c.0 d.0 → FoundNode V before after → ValueRel (named V) v w
    → Agrees V (insert p c before v) (insert q d after w)
insert_rel p c q d before after h k m x =
    asking_rel {R = Equal} (λ W l s t g. (host.errors_same g.host {p = p} {d = c} {r = q} {e = d} (linked_up l h) (linked_up l k)).inserts before after (found_up l m))
    (λ W l o r e. unless_refused_rel o r (inserts p c before) (inserts q d after) e (λ X j.
    let up = larger_more l j in
    inserts_rel (linked_up up h) (linked_up up k) (found_up up m)) (value_up l x))

insert_before_rel : {V : World} {r u v w : Value} (p c q d : NodeId) → Linked V p.0 q.0 → Linked V c.0 d.0 → ValueRel (named V) r u → ValueRel (named V) v w
    → Agrees V (insert_before p c r v) (insert_before q d u w)
insert_before_rel {V = V} {v = v} {w = w} p c q d h k r x = by r
  where
    other : {r u : Value} → ValueRel (named V) r u → Agrees V (on_node r (λ k. insert p c (Some k) v)) (on_node u (λ k. insert q d (Some k) w))
    other r = on_node_rel r (λ W l i j m. insert_rel p c q d (Some i) (Some j) (linked_up l h) (linked_up l k) (some (record { linked = m })) (value_up l x))

    by : {r u : Value} → ValueRel (named V) r u → Agrees V (insert_before p c r v) (insert_before q d u w)
    by null = insert_rel p c q d None None h k none x
    by undefined = other undefined
    by (truth {b = b}) = other (truth {b = b})
    by (num {n = n}) = other (num {n = n})
    by (text {units = u}) = other (text {units = u})
    by (object {a = a} {b = b} n) = other (object {a = a} {b = b} n)

replace_rel : {V : World} {v w : Value} (p c o q d r : NodeId) → Linked V p.0 q.0 → Linked V c.0 d.0 → Linked V o.0 r.0 → ValueRel (named V) v w → Agrees V (replace p c o v) (replace q d r w)
replace_rel p c o q d r h k m x =
    asking_rel {R = Equal} (λ W l s t g. (host.errors_same g.host {p = p} {d = c} {r = q} {e = d} (linked_up l h) (linked_up l k)).replaces o r (linked_up l m))
    (λ W l y z e. unless_refused_rel y z (replaces p c o) (replaces q d r) e (λ X j.
    let up = larger_more l j in
    replaces_rel (linked_up up h) (linked_up up k) (linked_up up m)) (value_up l x))

remove_rel : {V : World} {v w : Value} (p c q d : NodeId) → Linked V p.0 q.0 → Linked V c.0 d.0 → ValueRel (named V) v w → Agrees V (remove p c v) (remove q d w)
remove_rel p c q d h k x =
    asking_rel {R = Equal} (λ W l s t g. (host.errors_same g.host {p = p} {d = c} {r = q} {e = d} (linked_up l h) (linked_up l k)).removes)
    (λ W l y z e. unless_refused_rel y z (takes_out c) (takes_out d) e (λ X j. takes_out_rel (linked_up (larger_more l j) k)) (value_up l x))

empty_same : {R : NodeId → NodeId → Type 0} {xs ys : List NodeId} → Each R xs ys → is_empty xs ≡ is_empty ys
empty_same no_more = refl
empty_same (each h hs) = refl

has_children_rel : {V : World} (k l : NodeId) → Linked V k.0 l.0 → Agrees V (has_children k) (has_children l)
has_children_rel k l i = asking_rel {R = Equal} (λ W m s t g. ap not (empty_same (g.host.nodes.at k.0 l.0 (linked_up m i)).children)) (λ W m a b e. give_rel (truth_same e))

-- ---- attributes

attribute_same : {W : World} {s t : Store} → StoreRel W s t → (k l : NodeId) → Linked W k.0 l.0 → (x : Text) → attribute_at s.host.nodes k x ≡ attribute_at t.host.nodes l x
attribute_same g k l i x = ap (λ c. value_of x c.attributes) (g.host.nodes.at k.0 l.0 i).content

text_or_null_rel : {V : World} (o p : Option Text) → o ≡ p → ValueRel (named V) (text_or_null o) (text_or_null p)
text_or_null_rel {V = V} o p e = subst (λ q. ValueRel (named V) (text_or_null o) (text_or_null q)) e (itself o)
  where
    itself : (q : Option Text) → ValueRel (named V) (text_or_null q) (text_or_null q)
    itself None = null
    itself (Some x) = text

get_attribute_rel : {V : World} (k l : NodeId) → Linked V k.0 l.0 → (x : Text) → Agrees V (get_attribute k x) (get_attribute l x)
get_attribute_rel k l i x = asking_rel {R = Equal} (λ W m s t g. attribute_same g k l (linked_up m i) (folded x)) (λ W m o p e. give_rel (text_or_null_rel o p e))

has_attribute_rel : {V : World} (k l : NodeId) → Linked V k.0 l.0 → (x : Text) → Agrees V (has_attribute k x) (has_attribute l x)
has_attribute_rel k l i x = asking_rel {R = Equal} (λ W m s t g. attribute_same g k l (linked_up m i) (folded x)) (λ W m o p e. give_rel (truth_same (ap is_some e)))

set_attribute_rel : {V : World} (k l : NodeId) → Linked V k.0 l.0 → (x v : Text) → Agrees V (set_attribute k x v) (set_attribute l x v)
set_attribute_rel k l i x v =
    choose_rel (is_handler (folded x)) _ refl (raise_rel WrongArgument)
    (choose_rel (is_name x) _ refl (stepped_rel {x = sets_attribute k x v} {y = sets_attribute l x v} (λ W m. sets_attribute_rel (linked_up m i))) (raise_rel InvalidCharacter))

-- ---- the document

node_value_rel : {W : World} {s t : Store} {o p : Option NodeId} → StoreRel W s t → FoundNode W o p → ValueRel (named W) (node_value s.host.objects o) (node_value t.host.objects p)
node_value_rel g none = null
node_value_rel g (some {a = k} {b = l} i) = object (g.host.objects k l i.linked)

get_by_id_rel : {V : World} (x : Text) → Agrees V (get_by_id x) (get_by_id x)
get_by_id_rel x = asking_rel {R = λ W. ValueRel (named W)} (λ W l s t g. node_value_rel g (host.ids_found g.host x)) (λ W l v w h. give_rel h)

new_node_rel : {V : World} (k : Kind) → may_be_made k ≡ true → Agrees V (new_node k) (new_node k)
new_node_rel k may = bind_rel (make_node_rel k may) (λ W l a b n. give_rel (object_value_rel a b n))

-- a name that may be one stays so when it is folded
create_element_rel : {V : World} (x : Text) → Agrees V (create_element x) (create_element x)
create_element_rel {V = V} x = by (is_name x) refl
  where
    by : (b : Bool) → is_name x ≡ b → Agrees V (choose b (new_node (kind.Element (folded x))) (raise InvalidCharacter)) (choose b (new_node (kind.Element (folded x))) (raise InvalidCharacter))
    by true e = new_node_rel (kind.Element (folded x)) (and_from (is_folded_name (folded x)) true (folded_name x e) refl)
    by false e = raise_rel InvalidCharacter

create_event_rel : {V : World} (x : Text) → Agrees V (create_event x) (create_event x)
create_event_rel x =
    choose_rel (list_any (bytes_eq (folded x)) event_words) _ refl (bind_rel make_event_rel (λ W l a b n. give_rel (object_value_rel a b n))) (raise_rel NotSupported)

-- ---- listeners and events

-- a listener is added, or removed
abbrev pub ListenerSteps : (Listener → HostStep) → Type 0
ListenerSteps g = (W : World) (l m : Listener) → ListenerRel W l m → StepRel (clocks_of W) W (g l) (g m)

change_listeners_rel : {V : World} {vs ws : List Value} (g : Listener → HostStep) (c d : Calls) (k l : NodeId) → ListenerSteps g → Linked V k.0 l.0 → Each (ValueRel (named V)) vs ws
    → Agrees V (change_listeners g c k vs) (change_listeners g d l ws)
change_listeners_rel {vs = vs} {ws = ws} g c d k l steps i r =
    with_text_rel c d r 0 (λ W m x. with_callback_rel (argument_rel (values_up m r) 1) (λ X j a b n.
    let up = larger_more m j in
    let same = is_true_same (argument_rel (values_up up r) 2) in
    bind_rel {R = Equal} (changes_host_rel {x = g (listener_of k x a (is_true (argument vs 2)))} {y = g (listener_of l x b (is_true (argument ws 2)))} (λ Y q.
    steps Y (listener_of k x a (is_true (argument vs 2))) (listener_of l x b (is_true (argument ws 2)))
    (record { node = linked_up (larger_more up q) i; kind = refl; call = named_up q n; capture = same }))) (λ Y q y z e. done_rel)))

change_event_rel : {V : World} (a b : ObjId) (x : EventStep) → Named V a.0 b.0 → ((W : World) → EventStepRel W x x) → Agrees V (change_event a x) (change_event b x)
change_event_rel a b x n h = bind_rel {R = Equal} (changes_event_rel a b {x = x} {y = x} n (λ W l. h W)) (λ W l y z e. done_rel)

-- what an event is initialised with
init_event_rel : {V : World} {vs ws : List Value} (a b : ObjId) (x : Text) → Named V a.0 b.0 → Each (ValueRel (named V)) vs ws
    → Agrees V (change_event a (initialises x (is_true (argument vs 1)) (is_true (argument vs 2)))) (change_event b (initialises x (is_true (argument ws 1)) (is_true (argument ws 2))))
init_event_rel {V = V} {vs = vs} {ws = ws} a b x n r =
    let one = is_true_same (argument_rel r 1) in
    let two = is_true_same (argument_rel r 2) in
    subst (λ y. Agrees V (change_event a (initialises x (is_true (argument vs 1)) (is_true (argument vs 2)))) (change_event b (initialises x y (is_true (argument ws 2))))) one
    (subst (λ y. Agrees V (change_event a (initialises x (is_true (argument vs 1)) (is_true (argument vs 2)))) (change_event b (initialises x (is_true (argument vs 1)) y))) two
    (change_event_rel a b (initialises x (is_true (argument vs 1)) (is_true (argument vs 2))) n (λ W. initialises_rel)))

-- ---- the rows

event_row_rel : {V : World} {this that : Value} {vs ws : List Value} (c d : Calls) (which : BuiltIn) → ValueRel (named V) this that → Each (ValueRel (named V)) vs ws
    → Agrees V (event_row c which this vs) (event_row d which that ws)
event_row_rel c d built_in.EventPrototypeInitEvent h r =
    on_event_rel h (λ W l a b p q n e. with_text_rel c d (values_up l r) 0 (λ X j x. init_event_rel a b x (named_up j n) (values_up (larger_more l j) r)))
event_row_rel c d built_in.EventPrototypeStopPropagation h r = on_event_rel h (λ W l a b p q n e. change_event_rel a b stops n (λ X. stops_rel))
event_row_rel c d built_in.EventPrototypePreventDefault h r = on_event_rel h (λ W l a b p q n e. change_event_rel a b prevents n (λ X. prevents_rel))
event_row_rel c d which h r = raise_rel WrongArgument

document_row_rel : {V : World} {this that : Value} {vs ws : List Value} (c d : Calls) (which : BuiltIn) → ValueRel (named V) this that → Each (ValueRel (named V)) vs ws
    → Agrees V (document_row c which this vs) (document_row d which that ws)
document_row_rel c d built_in.NodePrototypeGetElementById h r = on_kind_rel is_document h (λ W l k j i. with_text_rel c d (values_up l r) 0 (λ X m x. get_by_id_rel x))
document_row_rel c d built_in.NodePrototypeCreateElement h r = on_kind_rel is_document h (λ W l k j i. with_text_rel c d (values_up l r) 0 (λ X m x. create_element_rel x))
document_row_rel c d built_in.NodePrototypeCreateTextNode h r = on_kind_rel is_document h (λ W l k j i. with_text_rel c d (values_up l r) 0 (λ X m x. new_node_rel (kind.Text x) refl))
document_row_rel c d built_in.NodePrototypeCreateComment h r = on_kind_rel is_document h (λ W l k j i. with_text_rel c d (values_up l r) 0 (λ X m x. new_node_rel (kind.Comment x) refl))
document_row_rel c d built_in.NodePrototypeCreateEvent h r = on_kind_rel is_document h (λ W l k j i. with_text_rel c d (values_up l r) 0 (λ X m x. create_event_rel x))
document_row_rel c d which h r = event_row_rel c d which h r

pub node_row_rel : {V : World} {this that : Value} {vs ws : List Value} (c d : Calls) (which : BuiltIn) → ValueRel (named V) this that → Each (ValueRel (named V)) vs ws
    → Agrees V (node_row c which this vs) (node_row d which that ws)
node_row_rel c d built_in.NodePrototypeInsertBefore h r =
    on_node_rel h (λ W l p q i. on_node_rel (argument_rel (values_up l r) 0) (λ X m k j n.
    let args = values_up (larger_more l m) r in
    insert_before_rel p k q j (linked_up m i) n (argument_rel args 1) (argument_rel args 0)))
node_row_rel c d built_in.NodePrototypeReplaceChild h r =
    on_node_rel h (λ W l p q i. on_node_rel (argument_rel (values_up l r) 0) (λ X m k j n. on_node_rel (argument_rel (values_up (larger_more l m) r) 1) (λ Y o x y z.
    replace_rel p k x q j y (linked_up (larger_more m o) i) (linked_up o n) z (argument_rel (values_up (larger_more l (larger_more m o)) r) 1))))
node_row_rel c d built_in.NodePrototypeRemoveChild h r =
    on_node_rel h (λ W l p q i. on_node_rel (argument_rel (values_up l r) 0) (λ X m k j n. remove_rel p k q j (linked_up m i) n (argument_rel (values_up (larger_more l m) r) 0)))
node_row_rel c d built_in.NodePrototypeAppendChild h r =
    on_node_rel h (λ W l p q i. on_node_rel (argument_rel (values_up l r) 0) (λ X m k j n. insert_rel p k q j None None (linked_up m i) n none (argument_rel (values_up (larger_more l m) r) 0)))
node_row_rel c d built_in.NodePrototypeHasChildNodes h r = on_node_rel h (λ W l k j i. has_children_rel k j i)
node_row_rel c d built_in.NodePrototypeGetAttribute h r = on_kind_rel is_element h (λ W l k j i. with_text_rel c d (values_up l r) 0 (λ X m x. get_attribute_rel k j (linked_up m i) x))
node_row_rel c d built_in.NodePrototypeSetAttribute h r =
    on_kind_rel is_element h (λ W l k j i. with_text_rel c d (values_up l r) 0 (λ X m x. with_text_rel c d (values_up (larger_more l m) r) 1 (λ Y n y.
    set_attribute_rel k j (linked_up (larger_more m n) i) x y)))
node_row_rel c d built_in.NodePrototypeRemoveAttribute h r =
    on_kind_rel is_element h (λ W l k j i. with_text_rel c d (values_up l r) 0 (λ X m x.
    stepped_rel {x = drops_attribute k x} {y = drops_attribute j x} (λ Y n. drops_attribute_rel (linked_up (larger_more m n) i))))
node_row_rel c d built_in.NodePrototypeHasAttribute h r = on_kind_rel is_element h (λ W l k j i. with_text_rel c d (values_up l r) 0 (λ X m x. has_attribute_rel k j (linked_up m i) x))
node_row_rel c d built_in.NodePrototypeAddEventListener h r = on_node_rel h (λ W l k j i. change_listeners_rel listens c d k j (λ X x y z. listens_rel z) i (values_up l r))
node_row_rel c d built_in.NodePrototypeRemoveEventListener h r = on_node_rel h (λ W l k j i. change_listeners_rel forgets c d k j (λ X x y z. forgets_rel z) i (values_up l r))
node_row_rel c d which h r = document_row_rel c d which h r
