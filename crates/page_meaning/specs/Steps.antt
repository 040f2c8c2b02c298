-- Meaning: what is done to a page, one thing after another. What does not fit changes nothing, so that whatever is done keeps what holds of
-- a page between two things.
use Rattle.std.specs.Prelude.{◌≡◌, Bool, true, false, ◌++◌, List, [], ◌∷◌, Some, length, if◌then◌else◌}
use Rattle.js_core.specs.Text.{Text}
use Rattle.js_values.specs.declared.ids.ObjId.{ObjId}
use Rattle.js_values.specs.declared.line.Line.{Line}
use Rattle.js_values.specs.declared.throw.Throw.{Throw}
use Rattle.js_values.specs.declared.throw.Throw.TheVariants.{CannotDefine, CannotSet}
use Rattle.js_values.specs.declared.value.Value.{Value}
use Rattle.dom_tree.specs.declared.content.Kind.{Kind}
use Rattle.object_heap.specs.declared.object.Class.TheVariants.{Event, Node}
use Rattle.object_heap.specs.declared.property.Change.{Change}
use Rattle.object_heap.specs.Attempt.{Attempt, throws}
use Rattle.object_heap.specs.Heap as heap
use Rattle.object_heap.specs.Heap.{Contents, made, new_object}
use Rattle.object_heap.specs.Laws as heap_laws
use Rattle.object_heap.specs.Object.{Object}
use Rattle.page_host.specs.Host.{Host}
use Rattle.page_host.specs.Steps.{HostStep, listens, starts, after_host, may_be_made}
use Rattle.page_host.specs.Steps as host
use Rattle.page_meaning.specs.Classes.{class_at, is_callable_class, is_made, is_node_class}
use Rattle.page_meaning.specs.Events.{EventStep, begins, arrives, after_event, new_parts}
use Rattle.page_meaning.specs.HostNames.{is_kept}
use Rattle.page_meaning.specs.Places.{at_place, event_prototype, node_prototype}
use Rattle.page_meaning.specs.Store.{Store, with_both, with_heap, with_host, with_lines}

-- what changes no list of own names but by a deletion, and neither makes nor changes a node or an event
abbrev pub adds_no_name : heap_laws.Step → Bool
adds_no_name (heap_laws.makes o fit) = is_made o.class
adds_no_name (heap_laws.puts k x v) = false
adds_no_name (heap_laws.defines k x change) = false
adds_no_name (heap_laws.adds k x p) = false
adds_no_name (heap_laws.gives_parts k f) = false
adds_no_name g = true

pub data Step : Type 0 where
  in_heap : (g : heap_laws.Step) → adds_no_name g ≡ true → Step
  -- a property is put, or defined, where nothing is kept from it
  puts : ObjId → Text → Value → Step
  defines : ObjId → Text → Change → Step
  in_event : ObjId → EventStep → Step
  puts_out : Line → Step
  in_host : HostStep → Step
  -- a node of this kind, alone, with its object
  makes_node : Kind → Step
  makes_event : Step

-- ---- properties: what is tried where nothing may be put or defined throws, and changes nothing

abbrev pub unless_kept : Store → ObjId → Text → Throw → Attempt Contents → Attempt Contents
unless_kept s at x t tried = if is_kept s.host.nodes (class_at s at) x then throws s.heap t else tried

abbrev pub put_tried : Store → ObjId → Text → Value → Attempt Contents
put_tried s at x v = unless_kept s at x CannotSet (heap.put s.heap at.0 x v)

abbrev pub define_tried : Store → ObjId → Text → Change → Attempt Contents
define_tried s at x change = unless_kept s at x CannotDefine (heap.define_own s.heap at.0 x change)

-- ---- events: what they are dispatched at is the object of a node

abbrev pub fits_event : Store → EventStep → Bool
fits_event s (begins at) = is_node_class s.host.nodes (class_at s at)
fits_event s (arrives at phase) = is_node_class s.host.nodes (class_at s at)
fits_event s g = true

abbrev pub with_event : Store → ObjId → EventStep → Contents
with_event s at g = if fits_event s g then heap_laws.after_step s.heap (heap_laws.gives_parts at.0 (after_event g)) else s.heap

-- ---- the host: what it is given to call can be called

abbrev pub fits_host : Store → HostStep → Bool
fits_host s (listens l) = is_callable_class (class_at s l.call)
fits_host s (starts delay period f) = is_callable_class (class_at s f)
fits_host s g = true

abbrev pub changed_host : Store → HostStep → Host
changed_host s g = if fits_host s g then after_host s.host g else s.host

-- ---- new nodes and events

-- the object of the node that is made next
abbrev pub node_object : Store → Object
node_object s = new_object (Node (record { 0 = length s.host.nodes })) (Some node_prototype)

abbrev pub with_node_object : Store → Kind → Contents
with_node_object s k = if may_be_made k then made s.heap (node_object s) else s.heap

abbrev pub event_object : Object
event_object = new_object (Event new_parts) (Some event_prototype)

-- ----

abbrev pub after_step : Store → Step → Store
after_step s (in_heap g h) = with_heap s (heap_laws.after_step s.heap g)
after_step s (puts at x v) = with_heap s (put_tried s at x v).after
after_step s (defines at x change) = with_heap s (define_tried s at x change).after
after_step s (in_event at g) = with_heap s (with_event s at g)
after_step s (puts_out l) = with_lines s (s.lines ++ l ∷ [])
after_step s (in_host g) = with_host s (changed_host s g)
after_step s (makes_node k) = with_both s (with_node_object s k) (host.with_new_node s.host k (at_place (length s.heap.objects)))
after_step s makes_event = with_heap s (made s.heap event_object)

abbrev pub after_steps : Store → List Step → Store
after_steps s [] = s
after_steps s (g ∷ gs) = after_steps (after_step s g) gs
