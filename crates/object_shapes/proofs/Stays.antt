-- Each step of a script keeps the shapes of a page.
use Rattle.std.proofs.Common.{◌≡◌, refl, Bool, true, false, ℕ, List, [], ◌∷◌, ◌++◌, Option, Some, None, length, if◌then◌else◌}
use Rattle.js_values.specs.declared.ids.ObjId.{ObjId}
use Rattle.js_values.specs.declared.throw.Throw.{Throw}
use Rattle.js_values.specs.declared.throw.Throw.TheVariants.{CannotDefine, CannotSet}
use Rattle.js_values.specs.declared.value.Value.{Value}
use Rattle.object_heap.specs.Attempt.{Attempt, throws}
use Rattle.object_heap.specs.Chain.{can_put, object_at}
use Rattle.object_heap.specs.Define.{define_own as define_in, delete_own, prevented, put_own}
use Rattle.object_heap.specs.Heap.{Contents, define_own, delete, prevent_extensions, put}
use Rattle.object_heap.specs.Laws as heap
use Rattle.object_heap.specs.declared.property.Change.{Change}
use Rattle.page_host.proofs.Callers.{new_nodes_stay_plain}
use Rattle.page_meaning.specs.Classes.{class_at}
use Rattle.page_meaning.specs.HostNames.{is_kept}
use Rattle.page_meaning.specs.Places.{at_place}
use Rattle.page_meaning.specs.Steps.{adds_no_name, defines, in_event, in_heap, in_host, makes_event, makes_node, puts, puts_out, unless_kept}
use Rattle.page_meaning.specs.Store.{Store, with_heap}
use Rattle.object_shapes.specs.Laws.{IsWithinHeap, PlainStays, ShapesStay, ValueBelow}
use Rattle.object_shapes.specs.Shapes.{IsShaped}
use Rattle.object_shapes.proofs.Bound.{lines_shaped, opened_shaped, set_shaped}
use Rattle.object_shapes.proofs.Called.{Call, IsSmall, after_call, defining, deleting, putting}
use Rattle.object_shapes.proofs.Changed.{call_kept, prevented_kept}
use Rattle.object_shapes.proofs.Events.{event_step_shaped}
use Rattle.object_shapes.proofs.Free.{IsFree}
use Rattle.object_shapes.proofs.Hosts.{host_step_plain, host_step_shaped}
use Rattle.object_shapes.proofs.Lists.{Small, SmallSome}
use Rattle.object_shapes.proofs.Made.{event_shaped, made_shaped}
use Rattle.object_shapes.proofs.Nodes.{node_shaped}
use Rattle.object_shapes.proofs.Steps.{Becomes, becomes_kept, no_node, object_shaped}

value_small : (s : Store) (o : Option Value) → ValueBelow s o → SmallSome (length s.heap.objects) o
value_small s None h = tt
value_small s (Some v) h = h

-- a call on an object
called : (s : Store) (k : ℕ) (call : Call) → IsSmall (length s.heap.objects) call → IsFree s.host.nodes (object_at s.heap.objects k).class call
    → Becomes (length s.heap.objects) s (object_at s.heap.objects k) (after_call (object_at s.heap.objects k) call)
called s k call small may =
    becomes_kept (length s.heap.objects) s (object_at s.heap.objects k) (after_call (object_at s.heap.objects k) call)
    (call_kept (length s.heap.objects) s.host.nodes (object_at s.heap.objects k) call small may)

put_shaped : (s : Store) (k : ℕ) (name : List ℕ) (v : Value) → IsShaped s → Small (length s.heap.objects) v
    → is_kept s.host.nodes (object_at s.heap.objects k).class name ≡ false → IsShaped (with_heap s (put s.heap k name v).after)
unfolding put
put_shaped s k name v h small may =
    object_shaped s k (put_own (can_put s.heap.objects k name) (object_at s.heap.objects k) name v).after h
    (called s k (putting (can_put s.heap.objects k name) name v) small may)

define_shaped : (s : Store) (k : ℕ) (name : List ℕ) (change : Change) → IsShaped s → SmallSome (length s.heap.objects) change.value
    → is_kept s.host.nodes (object_at s.heap.objects k).class name ≡ false → IsShaped (with_heap s (define_own s.heap k name change).after)
unfolding define_own
define_shaped s k name change h small may =
    object_shaped s k (define_in (object_at s.heap.objects k) name change).after h (called s k (defining name change) small may)

delete_shaped : (s : Store) (k : ℕ) (name : List ℕ) → IsShaped s → IsShaped (with_heap s (delete s.heap k name).after)
unfolding delete
delete_shaped s k name h = object_shaped s k (delete_own (object_at s.heap.objects k) name).after h (called s k (deleting name) tt tt)

prevent_shaped : (s : Store) (k : ℕ) → IsShaped s → IsShaped (with_heap s (prevent_extensions s.heap k).after)
unfolding prevent_extensions
prevent_shaped s k h = object_shaped s k (prevented (object_at s.heap.objects k)).after h
    (becomes_kept (length s.heap.objects) s (object_at s.heap.objects k) (prevented (object_at s.heap.objects k)).after
    (prevented_kept (length s.heap.objects) s.host.nodes (object_at s.heap.objects k)))

-- what is kept is not tried
tried_shaped : (s : Store) (at : ObjId) (name : List ℕ) (t : Throw) (tried : Attempt Contents)
    → (is_kept s.host.nodes (class_at s at) name ≡ false → IsShaped (with_heap s tried.after)) → IsShaped s
    → IsShaped (with_heap s (unless_kept s at name t tried).after)
tried_shaped s at name t tried f h = by_case (is_kept s.host.nodes (class_at s at) name) refl
  where
    by_case : (b : Bool) → is_kept s.host.nodes (class_at s at) name ≡ b → IsShaped (with_heap s (if b then throws s.heap t else tried).after)
    by_case true e = h
    by_case false e = f e

heap_shaped : (s : Store) (g : heap.Step) → adds_no_name g ≡ true → IsShaped s → IsWithinHeap s g → IsShaped (with_heap s (heap.after_step s.heap g))
heap_shaped s (heap.puts k name v) none h w = absurd w
heap_shaped s (heap.defines k name change) none h w = absurd w
heap_shaped s (heap.deletes k name) none h w = delete_shaped s k name h
heap_shaped s (heap.prevents k) none h w = prevent_shaped s k h
heap_shaped s (heap.makes o fit) none h w = made_shaped s o h w (λ j e. no_node o.class j none e)
heap_shaped s (heap.opens outer names) none h w = opened_shaped s outer names h w
heap_shaped s (heap.binds k name v) none h w = set_shaped s h k name v w
heap_shaped s (heap.adds k name p) none h w = absurd w
heap_shaped s (heap.closes k) none h w = absurd w
heap_shaped s (heap.gives_parts k f) none h w = absurd w

pub step_shaped : ShapesStay
step_shaped s (in_heap g none) sound h w = heap_shaped s g none h w
step_shaped s (puts at name v) sound h w =
    tried_shaped s at name CannotSet (put s.heap at.0 name v) (λ may. put_shaped s at.0 name v h w may) h
step_shaped s (defines at name change) sound h w =
    tried_shaped s at name CannotDefine (define_own s.heap at.0 name change)
    (λ may. define_shaped s at.0 name change h (value_small s change.value w) may) h
step_shaped s (in_event at g) sound h w = event_step_shaped s h at g
step_shaped s (puts_out l) sound h w = lines_shaped s (s.lines ++ l ∷ []) h
step_shaped s (in_host g) sound h w = host_step_shaped s g h
step_shaped s (makes_node k) sound h w = node_shaped s h k
step_shaped s makes_event sound h w = event_shaped s h

-- attributes stay plain
pub plain_stays : PlainStays
plain_stays s (in_heap g none) plain = plain
plain_stays s (puts at name v) plain = plain
plain_stays s (defines at name change) plain = plain
plain_stays s (in_event at g) plain = plain
plain_stays s (puts_out l) plain = plain
plain_stays s (in_host g) plain = host_step_plain s g plain
plain_stays s (makes_node k) plain = new_nodes_stay_plain s.host k (at_place (length s.heap.objects)) plain
plain_stays s makes_event plain = plain
