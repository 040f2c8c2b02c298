-- What goes on with a node, an event, a function or a text among the arguments.
use Rattle.std.proofs.Common.{ℕ, Bool, List}
use Rattle.std.specs.Prelude.{Option, Some, None}
use Rattle.js_core.specs.Text.{Text}
use Rattle.js_values.specs.declared.ids.NodeId.{NodeId}
use Rattle.js_values.specs.declared.ids.ObjId.{ObjId}
use Rattle.js_values.specs.declared.throw.Throw.TheVariants.{WrongArgument}
use Rattle.js_values.specs.declared.value.Value.{Value}
use Rattle.dom_tree.specs.declared.content.Kind.{Kind}
use Rattle.object_heap.specs.declared.object.EventParts.{EventParts}
use Rattle.page_meaning.specs.Act.{Act, Calls}
use Rattle.page_meaning.specs.Convert.{text_in}
use Rattle.page_meaning.specs.NodeRows.{object_in, on_event, on_kind, on_node, or_wrong, with_callback, with_text}
use Rattle.page_meaning.specs.ObjectRows.{argument}
use Rattle.literal_values.specs.Values.{AreBounded, IsText}
use Rattle.written_pages.proofs.Acts.{also_is, asking_any, choose_is}
use Rattle.written_pages.proofs.Converting.{to_text_is}
use Rattle.literal_values.proofs.Callers.{text_in_units, value_at}
use Rattle.written_pages.proofs.Primitives.{raise_is}
use Rattle.written_pages.specs.Acts.{CallsAre, Writes}

or_wrong_is : {A : Type 0} (f : A → Act) (o : Option A) → ((a : A) → Writes (f a)) → Writes (or_wrong f o)
or_wrong_is f None h = raise_is WrongArgument tt
or_wrong_is f (Some a) h = h a

pub on_node_is : {f : NodeId → Act} (v : Value) → ((k : NodeId) → Writes (f k)) → Writes (on_node v f)
on_node_is {f = f} v h = asking_any (λ o. or_wrong_is f o h)

pub on_kind_is : {f : NodeId → Act} (test : Kind → Bool) (v : Value) → ((k : NodeId) → Writes (f k)) → Writes (on_kind test v f)
on_kind_is test v h = on_node_is v (λ k. asking_any (λ b. choose_is b (h k) (raise_is WrongArgument tt)))

pub on_event_is : {f : ObjId → EventParts → Act} (v : Value) → ((at : ObjId) (parts : EventParts) → Writes (f at parts)) → Writes (on_event v f)
on_event_is {f = f} v h =
    asking_any (λ o. or_wrong_is (λ parts. or_wrong (λ at. f at parts) (object_in v)) o (λ parts. or_wrong_is (λ at. f at parts) (object_in v) (λ at. h at parts)))

pub with_callback_is : {f : ObjId → Act} (v : Value) → ((at : ObjId) → Writes (f at)) → Writes (with_callback v f)
with_callback_is {f = f} v h = asking_any (λ b. choose_is b (or_wrong_is f (object_in v) h) (raise_is WrongArgument tt))

pub with_text_is : {calls : Calls} {f : Text → Act} → CallsAre calls → (vs : List Value) (i : ℕ) → AreBounded vs → ((x : Text) → IsText x → Writes (f x)) → Writes (with_text calls vs i f)
with_text_is c vs i h k = also_is (to_text_is c (argument vs i) (value_at vs i h)) (λ x p. k (text_in x) (text_in_units x p))
