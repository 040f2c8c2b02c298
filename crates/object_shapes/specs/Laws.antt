-- That objects keep their shapes.
use Rattle.std.specs.Prelude.{ℕ, false, ◌≡◌, List, Option, Some, None, length, IsTrue, ⊤}
use Rattle.js_core.specs.Tree.{Code}
use Rattle.js_values.specs.declared.ids.EnvId.{EnvId}
use Rattle.js_values.specs.declared.value.Value.{Value}
use Rattle.object_heap.specs.Heap.{IsSound}
use Rattle.dom_tree.specs.Node.{Nodes}
use Rattle.dom_tree.specs.Sound as nodes
use Rattle.object_heap.specs.Laws as heap
use Rattle.object_heap.specs.Object.{Object}
use Rattle.page_host.specs.Sound.{ArePlain}
use Rattle.page_meaning.specs.Functions.{function_steps}
use Rattle.page_meaning.specs.Places.{built_in_count, window}
use Rattle.page_meaning.specs.Pristine.{built_in_globals, built_ins, pristine}
use Rattle.page_meaning.specs.Steps.{Step, in_heap, puts, defines, after_step}
use Rattle.page_meaning.specs.Store.{Store, with_heap}
use Rattle.object_shapes.specs.Links.{all_below, bound_links, object_links, value_links}
use Rattle.object_shapes.specs.Shapes.{HasShape, IsShaped, built_in_at}

abbrev pub Below : Store → List ℕ → Type 0
Below s ks = IsTrue (all_below (length s.heap.objects) ks)

abbrev pub ValueBelow : Store → Option Value → Type 0
ValueBelow s None = ⊤
ValueBelow s (Some v) = Below s (value_links v)

-- a new object has its shape, and refers to what is there
pub record IsNew (s : Store) (o : Object) : Type 0 where
  pub there : Below s (object_links o)
  pub made : HasShape s o o.class
  pub not_closed : o.closed ≡ false

-- a step of the heap refers to what is there, and is one that scripts take
abbrev pub IsWithinHeap : Store → heap.Step → Type 0
IsWithinHeap s (heap.deletes k name) = ⊤
IsWithinHeap s (heap.prevents k) = ⊤
IsWithinHeap s (heap.makes o fit) = IsNew s o
IsWithinHeap s (heap.opens outer names) = Below s (bound_links names)
IsWithinHeap s (heap.binds k name v) = Below s (value_links v)
IsWithinHeap s step = ⊥

-- so of a step of the page. What the host is given, and what an event is dispatched at, is tested by the step itself
abbrev pub IsWithin : Store → Step → Type 0
IsWithin s (in_heap g none) = IsWithinHeap s g
IsWithin s (puts at name v) = Below s (value_links v)
IsWithin s (defines at name change) = ValueBelow s change.value
IsWithin s g = ⊤

-- a page begins with so many objects, and its global object with so many properties
abbrev pub BuiltInsAreCounted : Type 0
BuiltInsAreCounted = (length built_ins ≡ built_in_count) × (length (built_in_at window.0).props ≡ built_in_globals)

-- a page before its scripts has its shapes
abbrev pub PagesBeginShaped : Type 0
PagesBeginShaped = (t : Nodes) → nodes.IsSound t → IsShaped (pristine t)

-- whatever scripts do at once keeps them
abbrev pub ShapesStay : Type 0
ShapesStay = (s : Store) (step : Step) → IsSound s.heap → IsShaped s → IsWithin s step → IsShaped (after_step s step)

-- so does a new function with its `prototype`, which name each other
abbrev pub FunctionsStay : Type 0
FunctionsStay =
    (s : Store) (c : Code) (env : Option EnvId) → IsSound s.heap → IsShaped s
    → IsShaped (with_heap s (heap.after_steps s.heap (function_steps c env (length s.heap.objects))))

-- where no attribute's name begins with `on`, none comes to
abbrev pub PlainStays : Type 0
PlainStays = (s : Store) (step : Step) → ArePlain s.host.nodes → ArePlain (after_step s step).host.nodes
