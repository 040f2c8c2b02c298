-- What rows on nodes and events test, on values that are related.
use Rattle.std.proofs.Common.{ap, subst, ℕ, Bool, List, Option}
use Rattle.js_core.specs.Text.{Text}
use Rattle.js_values.specs.declared.ids.NodeId.{NodeId}
use Rattle.js_values.specs.declared.ids.ObjId.{ObjId}
use Rattle.js_values.specs.declared.throw.Throw.TheVariants.{WrongArgument}
use Rattle.js_values.specs.declared.value.Value.{Value}
use Rattle.js_values.specs.declared.value.Value.TheVariants as value
use Rattle.dom_tree.specs.declared.content.Kind.{Kind}
use Rattle.object_heap.specs.declared.object.Class.{Class}
use Rattle.object_heap.specs.declared.object.EventParts.{EventParts}
use Rattle.page_meaning.specs.Act.{Act, Calls}
use Rattle.page_meaning.specs.Convert.{text_in}
use Rattle.page_meaning.specs.NodeRows.{node_in, object_in, on_event, on_kind, on_node, or_wrong, parts_in, with_callback, with_text}
use Rattle.page_meaning.specs.Store.{Store}
use Rattle.heap_relations.proofs.Callers.{larger_more}
use Rattle.heap_relations.specs.Naming.{Larger, Named, World, named}
use Rattle.heap_relations.specs.Related.{ClassRel, Each, EventRel, Maybe, ObjectIds, ValueRel, array, bound, event, fault, math, native, node, none, null, num, object, page, plain, some, text, truth, undefined, window}
use Rattle.host_relations.proofs.Callers as host
use Rattle.host_relations.proofs.Callers.{linked_up}
use Rattle.host_relations.specs.Linked.{Linked}
use Rattle.host_relations.specs.Nodes.{NodeIds}
use Rattle.agreement.specs.Acts.{Agrees, Equal, Relation, StoreRel}
use Rattle.agreement.proofs.Acts.{also_rel, asking_rel, choose_rel}
use Rattle.agreement.proofs.Called.{is_callable_same}
use Rattle.agreement.proofs.Heap.{value_up}
use Rattle.agreement.proofs.HostReads.{both_there}
use Rattle.agreement.proofs.ObjectRows.{argument_rel}
use Rattle.agreement.proofs.Properties.{class_of_rel, text_in_same}
use Rattle.agreement.proofs.Values.{raise_rel, to_text_rel}

-- nodes that are linked, where there are some
abbrev pub FoundNode : Relation (Option NodeId)
FoundNode W = Maybe (NodeIds (Linked W))

pub found_up : {V W : World} {o p : Option NodeId} → Larger V W → FoundNode V o p → FoundNode W o p
found_up l none = none
found_up l (some {a = k} {b = j} h) = some (record { linked = linked_up l h.linked })

-- ---- what is read

node_in_rel : {W : World} {s t : Store} {c d : Option Class} → StoreRel W s t → Maybe (ClassRel (named W)) c d → FoundNode W (node_in s.host.nodes c) (node_in t.host.nodes d)
node_in_rel g none = none
node_in_rel {W = W} g (some (node {m = k} {n = l} h)) = let there = both_there g k l h in rw (there.0, there.1) (some (record { linked = h }))
node_in_rel g (some plain) = none
node_in_rel g (some array) = none
node_in_rel g (some (page h)) = none
node_in_rel g (some native) = none
node_in_rel g (some (bound h v vs)) = none
node_in_rel g (some fault) = none
node_in_rel g (some math) = none
node_in_rel g (some window) = none
node_in_rel g (some (event h)) = none

pub parts_in_rel : {W : World} {c d : Option Class} → Maybe (ClassRel (named W)) c d → Maybe (EventRel (named W)) (parts_in c) (parts_in d)
parts_in_rel none = none
parts_in_rel (some (event h)) = some h
parts_in_rel (some (node h)) = none
parts_in_rel (some plain) = none
parts_in_rel (some array) = none
parts_in_rel (some (page h)) = none
parts_in_rel (some native) = none
parts_in_rel (some (bound h v vs)) = none
parts_in_rel (some fault) = none
parts_in_rel (some math) = none
parts_in_rel (some window) = none

object_in_rel : {W : World} {v w : Value} → ValueRel (named W) v w → Maybe (ObjectIds (named W)) (object_in v) (object_in w)
object_in_rel undefined = none
object_in_rel null = none
object_in_rel truth = none
object_in_rel num = none
object_in_rel text = none
object_in_rel {v = value.Object a} {w = value.Object b} (object n) = some (record { linked = n })

-- ---- acts on what is there

or_wrong_rel : {A : Type 0} {R : A → A → Type 0} {V : World} (f g : A → Act) (o p : Option A) → Maybe R o p → ((a b : A) → R a b → Agrees V (f a) (g b)) → Agrees V (or_wrong f o) (or_wrong g p)
or_wrong_rel f g _ _ none h = raise_rel WrongArgument
or_wrong_rel f g _ _ (some {a = a} {b = b} r) h = h a b r

-- what goes on with linked nodes
abbrev pub OnNodes : World → (NodeId → Act) → (NodeId → Act) → Type 0
OnNodes V f g = (W : World) → Larger V W → (k l : NodeId) → Linked W k.0 l.0 → Agrees W (f k) (g l)

pub on_node_rel : {V : World} {v w : Value} {f g : NodeId → Act} → ValueRel (named V) v w → OnNodes V f g → Agrees V (on_node v f) (on_node w g)
on_node_rel {f = f} {g = g} h go =
    asking_rel {R = FoundNode} (λ W l s t r. node_in_rel r (class_of_rel r (value_up l h))) (λ W l o p r. or_wrong_rel f g o p r (λ k j i. go W l k j i.linked))

pub on_kind_rel : {V : World} {v w : Value} {f g : NodeId → Act} (test : Kind → Bool) → ValueRel (named V) v w → OnNodes V f g → Agrees V (on_kind test v f) (on_kind test w g)
on_kind_rel test h go = on_node_rel h (λ W l k j i.
    asking_rel {R = Equal} (λ X m s t r. ap test (host.kinds_same r.host {k = k} {l = j} (linked_up m i))) (λ X m b c e.
    choose_rel b c e (go X (larger_more l m) k j (linked_up m i)) (raise_rel WrongArgument)))

-- what goes on with an event
abbrev pub OnEvents : World → (ObjId → EventParts → Act) → (ObjId → EventParts → Act) → Type 0
OnEvents V f g = (W : World) → Larger V W → (a b : ObjId) (p q : EventParts) → Named W a.0 b.0 → EventRel (named W) p q → Agrees W (f a p) (g b q)

pub on_event_rel : {V : World} {v w : Value} {f g : ObjId → EventParts → Act} → ValueRel (named V) v w → OnEvents V f g → Agrees V (on_event v f) (on_event w g)
on_event_rel {v = v} {w = w} {f = f} {g = g} h go =
    asking_rel {R = λ W. Maybe (EventRel (named W))} (λ W l s t r. parts_in_rel (class_of_rel r (value_up l h))) (λ W l o p r.
    or_wrong_rel (λ parts. or_wrong (λ at. f at parts) (object_in v)) (λ parts. or_wrong (λ at. g at parts) (object_in w)) o p r (λ x y e.
    or_wrong_rel (λ at. f at x) (λ at. g at y) (object_in v) (object_in w) (object_in_rel (value_up l h)) (λ a b n. go W l a b x y n.linked e)))

-- what goes on with a text
abbrev pub OnTexts : World → (Text → Act) → (Text → Act) → Type 0
OnTexts V f g = (W : World) → Larger V W → (x : Text) → Agrees W (f x) (g x)

pub on_text_rel : {W : World} {v w : Value} (f g : Text → Act) → ValueRel (named W) v w → ((x : Text) → Agrees W (f x) (g x)) → Agrees W (f (text_in v)) (g (text_in w))
on_text_rel {W = W} {v = v} f g h go = subst (λ x. Agrees W (f (text_in v)) (g x)) (text_in_same h) (go (text_in v))

pub with_text_rel : {V : World} {vs ws : List Value} {f g : Text → Act} (c d : Calls) → Each (ValueRel (named V)) vs ws → (i : ℕ) → OnTexts V f g → Agrees V (with_text c vs i f) (with_text d ws i g)
with_text_rel {f = f} {g = g} c d r i go = also_rel (to_text_rel c d (argument_rel r i)) (λ W l v w h. on_text_rel f g h (go W l))

-- what goes on with a function
abbrev pub OnObjects : World → (ObjId → Act) → (ObjId → Act) → Type 0
OnObjects V f g = (W : World) → Larger V W → (a b : ObjId) → Named W a.0 b.0 → Agrees W (f a) (g b)

pub with_callback_rel : {V : World} {v w : Value} {f g : ObjId → Act} → ValueRel (named V) v w → OnObjects V f g → Agrees V (with_callback v f) (with_callback w g)
with_callback_rel {v = v} {w = w} {f = f} {g = g} h go =
    asking_rel {R = Equal} (λ W l s t r. is_callable_same r (value_up l h)) (λ W l b c e.
    choose_rel b c e (or_wrong_rel f g (object_in v) (object_in w) (object_in_rel (value_up l h)) (λ a x n. go W l a x n.linked)) (raise_rel WrongArgument))
