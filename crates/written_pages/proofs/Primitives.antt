-- The primitives, and errors.
use Rattle.std.proofs.Common.{◌≡◌, ℕ, true, List, []}
use Rattle.std.specs.Prelude.{refl, ◌∷◌, Option, Some, None, Result, Ok, Err}
use Rattle.js_values.specs.declared.ids.EnvId.{EnvId}
use Rattle.js_values.specs.declared.ids.ObjId.{ObjId}
use Rattle.js_values.specs.declared.line.LineKind.{LineKind}
use Rattle.js_values.specs.declared.throw.Throw.{Throw}
use Rattle.js_values.specs.declared.value.Value.{Value}
use Rattle.js_values.specs.declared.value.Value.TheVariants as value
use Rattle.dom_tree.specs.Steps.{NodeStep}
use Rattle.dom_tree.specs.declared.content.Kind.{Kind}
use Rattle.object_heap.specs.Environment.{Bound}
use Rattle.object_heap.specs.Heap.{Contents, IsFit}
use Rattle.object_heap.specs.Laws as laws
use Rattle.object_heap.specs.Object.{Object}
use Rattle.object_heap.specs.declared.property.Change.{Change}
use Rattle.page_host.specs.Steps.{HostStep, in_nodes}
use Rattle.page_meaning.specs.Act.{Act, ActOf}
use Rattle.page_meaning.specs.Classes.{is_made}
use Rattle.page_meaning.specs.Errors.{error_fit, error_object, on_refusal, raise, settle, unless}
use Rattle.page_meaning.specs.Events.{EventStep}
use Rattle.page_meaning.specs.Kept.{AddNone}
use Rattle.page_meaning.specs.Primitives.{bind_name, changes, changes_event, changes_host, changes_nodes, define_at, delete_at, does, find_name, make, make_environment, make_event, make_node, prevent_at, put_at, put_line}
use Rattle.page_meaning.specs.Steps.{Step, defines, in_event, in_host, makes_event, makes_node, puts}
use Rattle.page_meaning.specs.Store.{Store}
use Rattle.page_meaning.specs.declared.signal.Signal.TheVariants as signal
use Rattle.literal_values.proofs.Callers.{define_thrown, delete_thrown, error_literal, found_bounded, heap_steps_literal, prevent_thrown, put_thrown, step_literal}
use Rattle.literal_values.specs.Nodes.{LiteralKind, LiteralNodeStep}
use Rattle.literal_values.specs.Objects.{LiteralChange, LiteralHeap, LiteralHeapSteps, LiteralNames, LiteralObject, MaybeFound}
use Rattle.literal_values.specs.Stores.{LiteralEventStep, LiteralHostStep, LiteralStep}
use Rattle.literal_values.specs.Values.{IsBounded, IsText, LiteralResult, LiteralThrow, MaybeThrow}
use Rattle.written_pages.proofs.Acts.{bind_is, give_is, ret_is}
use Rattle.written_pages.specs.Acts.{ActIs, Any, Writes}

-- ---- the heap

pub does_is : {A : Type 0} (P : A → Type 0) (f : Contents → A) (g : Contents → List laws.Step) (none : (h : Contents) → AddNone (g h))
    → ((h : Contents) → LiteralHeap h → P (f h)) → ((h : Contents) → LiteralHeapSteps (g h)) → ActIs P (does f g none)
does_is P f g none p q = record {
  run = λ s n l. (p s.heap l.heap, record { heap = heap_steps_literal s.heap (g s.heap) (q s.heap) l.heap; host = l.host });
}

pub put_at_is : (at : ObjId) (x : List ℕ) (v : Value) → IsText x → IsBounded v → ActIs MaybeThrow (put_at at x v)
put_at_is at x v h k = record { run = λ s n l. (put_thrown s at x v, step_literal s (puts at x v) (h, k) l) }

pub define_at_is : (at : ObjId) (x : List ℕ) (change : Change) → IsText x → LiteralChange change → ActIs MaybeThrow (define_at at x change)
define_at_is at x change h k = record { run = λ s n l. (define_thrown s at x change, step_literal s (defines at x change) (h, k) l) }

pub delete_at_is : (at : ObjId) (x : List ℕ) → ActIs MaybeThrow (delete_at at x)
delete_at_is at x = does_is MaybeThrow _ (λ h. laws.deletes at.0 x ∷ []) _ (λ h l. delete_thrown h at.0 x) (λ h. (tt, tt))

pub prevent_at_is : (at : ObjId) → ActIs MaybeThrow (prevent_at at)
prevent_at_is at = does_is MaybeThrow _ (λ h. laws.prevents at.0 ∷ []) _ (λ h l. prevent_thrown h at.0) (λ h. (tt, tt))

pub make_is : (o : Object) (fit : IsFit o) (made : is_made o.class ≡ true) → LiteralObject o → ActIs Any (make o fit made)
make_is o fit made h = does_is Any _ (λ g. laws.makes o fit ∷ []) _ (λ g l. tt) (λ g. (h, tt))

pub make_environment_is : (outer : Option EnvId) (names : Bound) → LiteralNames names → ActIs Any (make_environment outer names)
make_environment_is outer names h = does_is Any _ (λ g. laws.opens outer names ∷ []) _ (λ g l. tt) (λ g. (h, tt))

pub find_name_is : (env : Option EnvId) (x : List ℕ) → ActIs MaybeFound (find_name env x)
find_name_is env x = record { run = λ s n l. (found_bounded s env x l, l) }

pub bind_name_is : (e : EnvId) (x : List ℕ) (v : Value) → IsBounded v → ActIs Any (bind_name e x v)
bind_name_is e x v h = does_is Any _ (λ g. laws.binds e.0 x v ∷ []) _ (λ g l. tt) (λ g. (h, tt))

-- ---- the page

pub changes_is : (g : Step) → LiteralStep g → ActIs Any (changes g)
changes_is g h = record { run = λ s n l. (tt, step_literal s g h l) }

pub changes_event_is : (at : ObjId) (g : EventStep) → LiteralEventStep g → ActIs Any (changes_event at g)
changes_event_is at g h = changes_is (in_event at g) h

pub changes_host_is : (g : HostStep) → LiteralHostStep g → ActIs Any (changes_host g)
changes_host_is g h = changes_is (in_host g) h

pub changes_nodes_is : (g : NodeStep) → LiteralNodeStep g → ActIs Any (changes_nodes g)
changes_nodes_is g h = changes_is (in_host (in_nodes g)) h

pub make_node_is : (k : Kind) → LiteralKind k → ActIs Any (make_node k)
make_node_is k h = record { run = λ s n l. (tt, step_literal s (makes_node k) h l) }

pub make_event_is : ActIs Any make_event
make_event_is = record { run = λ s n l. (tt, step_literal s makes_event tt l) }

pub put_line_is : (kind : LineKind) (words : Store → List ℕ) → ActIs Any (put_line kind words)
put_line_is kind words = record { run = λ s n l. (tt, record { heap = l.heap; host = l.host }) }

-- ---- errors

pub raise_is : (t : Throw) → LiteralThrow t → Writes (raise t)
raise_is t h = bind_is (make_is (error_object t) (error_fit t) refl (error_literal t h)) (λ k p. ret_is (signal.Thrown (value.Object k)) tt)

pub settle_is : (r : Result Value Throw) → LiteralResult r → Writes (settle r)
settle_is (Ok v) h = give_is v h
settle_is (Err t) h = raise_is t h

pub refusal_is : {next : Act} (o : Option Throw) → MaybeThrow o → Writes next → Writes (on_refusal next o)
refusal_is None h k = k
refusal_is (Some t) h k = raise_is t h

pub unless_is : {m : ActOf (Option Throw)} {next : Act} → ActIs MaybeThrow m → Writes next → Writes (unless m next)
unless_is h k = bind_is h (λ o p. refusal_is o p k)
