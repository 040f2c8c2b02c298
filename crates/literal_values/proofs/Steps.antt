-- Whatever is done to a literal page with literal parts leaves one.
use Rattle.std.proofs.Common.{◌≡◌, refl, ℕ, zero, suc, ◌+◌, ◌≤◌, ◌&&◌, Bool, true, false, cond, List, [], ◌∷◌, ◌++◌, Option, Some, None, length, nat_le, nat_lt, not, if◌then◌else◌, le_trans, length-append, arith}
use Rattle.std.proofs.lemmas.Bool.{and_parts, ltb-true}
use Rattle.std.proofs.lemmas.List.{length_push}
use Rattle.std.specs.List.{All}
use Rattle.std.proofs.lemmas.List.Elements.{All-filter, All-push}
use Rattle.js_values.specs.declared.ids.ObjId.{ObjId}
use Rattle.js_values.specs.declared.throw.Throw.{Throw}
use Rattle.dom_tree.specs.declared.content.Kind.{Kind}
use Rattle.object_heap.specs.declared.object.Class.TheVariants.{Event, Node}
use Rattle.object_heap.specs.declared.object.EventParts.{EventParts}
use Rattle.object_heap.specs.Attempt.{Attempt, throws}
use Rattle.object_heap.specs.Heap as heap
use Rattle.object_heap.specs.Laws as heap_laws
use Rattle.object_heap.specs.Heap.{Contents, made}
use Rattle.page_host.specs.declared.listener.Listener.{Listener}
use Rattle.page_host.specs.Host.{Host}
use Rattle.page_host.specs.Listeners.{is_registered, is_same_listener, with_listener}
use Rattle.page_host.specs.Steps.{HostStep, after_fit, after_host, clears, clock_at, fires, forgets, in_nodes, is_fit, listens, may_be_made, starts, with_new_node, is_period, next_timer, time_limit}
use Rattle.timer_queue.specs.Timers.{after_first, again, cleared, due_timers, first, has_id, least_free, started, timer_limit}
use Rattle.timer_queue.specs.declared.timer.Live.{Live}
use Rattle.timer_queue.proofs.Callers.{in_is_live, is_taken, shorter}
use Rattle.page_meaning.specs.Classes.{class_at}
use Rattle.page_meaning.specs.Events.{EventStep, after_event, arrives, begins, initialises, is_stopped, may_begin, new_parts, prevents, prevented_in, rests, stopped_in, stops}
use Rattle.page_meaning.specs.HostNames.{is_kept}
use Rattle.page_meaning.specs.Places.{at_place, event_prototype, node_prototype}
use Rattle.page_meaning.specs.Steps.{after_step, after_steps, defines, event_object, fits_event, fits_host, in_event, in_heap, in_host, makes_event, makes_node, node_object, puts, puts_out, unless_kept, with_event, with_node_object}
use Rattle.page_meaning.specs.Store.{Store}
use Rattle.page_meaning.specs.Tasks.{settled, settlings}
use Rattle.literal_values.proofs.Heap.{define_in, heap_step_in, make_in, new_in, parts_in, put_in}
use Rattle.literal_values.proofs.Nodes.{new_node_literal, node_step_literal}
use Rattle.literal_values.proofs.Units.{no_text}
use Rattle.literal_values.specs.Laws.{StepsStayLiteral}
use Rattle.literal_values.specs.Nodes.{LiteralKind}
use Rattle.literal_values.specs.Objects.{LiteralHeap, LiteralParts}
use Rattle.literal_values.specs.Stores.{LiteralEventStep, LiteralHost, LiteralHostStep, LiteralListener, LiteralStore}

-- ---- properties

unless_literal : (s : Store) (at : ObjId) (x : List ℕ) (t : Throw) (tried : Attempt Contents) → LiteralHeap s.heap → LiteralHeap tried.after → LiteralHeap (unless_kept s at x t tried).after
unless_literal s at x t tried h k = by_case (is_kept s.host.nodes (class_at s at) x)
  where
    by_case : (b : Bool) → LiteralHeap (if b then throws s.heap t else tried).after
    by_case true = h
    by_case false = k

-- ---- events

either_parts : (b : Bool) (e f : EventParts) → LiteralParts e → LiteralParts f → LiteralParts (if b then e else f)
either_parts true e f h k = h
either_parts false e f h k = k

stopped_parts : (o : Option ObjId) (e : EventParts) → LiteralParts e → LiteralParts (stopped_in o e)
stopped_parts None e h = h
stopped_parts (Some at) e h = either_parts (is_stopped e.phase) e _ h h

prevented_parts : (o : Option ObjId) (e : EventParts) → LiteralParts e → LiteralParts (prevented_in o e)
prevented_parts None e h = h
prevented_parts (Some at) e h = either_parts _ _ e h h

event_parts : (g : EventStep) → LiteralEventStep g → (e : EventParts) → LiteralParts e → LiteralParts (after_event g e)
event_parts (initialises x bubbles cancelable) i e h = either_parts e.sent e _ h i
event_parts stops i e h = stopped_parts e.current e h
event_parts prevents i e h = prevented_parts e.current e h
event_parts (begins at) i e h = either_parts (may_begin e) _ e h h
event_parts (arrives at phase) i e h = h
event_parts rests i e h = h

event_literal : (s : Store) (at : ObjId) (g : EventStep) → LiteralEventStep g → LiteralHeap s.heap → LiteralHeap (with_event s at g)
event_literal s at g i h = by_case (fits_event s g)
  where
    by_case : (b : Bool) → LiteralHeap (if b then heap_laws.after_step s.heap (heap_laws.gives_parts at.0 (after_event g)) else s.heap)
    by_case true = parts_in h at.0 (after_event g) (event_parts g i)
    by_case false = h

-- ---- the host

listeners_more : (ls : List Listener) (l : Listener) → LiteralListener l → All LiteralListener ls → All LiteralListener (with_listener ls l)
listeners_more ls l i h = by_case (is_registered ls l)
  where
    by_case : (b : Bool) → All LiteralListener (if b then ls else ls ++ l ∷ [])
    by_case true = h
    by_case false = All-push LiteralListener ls l h i

again_short : (t : Live) (period : Option ℕ) → length (again t period) ≤ 1
again_short t None = omega arith
again_short t (Some n) = omega arith

no_longer : (ts : List Live) (id : ℕ) → length (cleared ts id) ≤ length ts
no_longer [] id = omega arith
no_longer (t ∷ ts) id = by_case (has_id id t) (no_longer ts id)
  where
    by_case : (b : Bool) → length (cleared ts id) ≤ length ts → length (cond (not b) (t ∷ cleared ts id) (cleared ts id)) ≤ suc (length ts)
    by_case true short = omega (arith, short)
    by_case false short = omega (arith, short)

-- a timer that is taken is live, so that there is room for it again
fired_few : (ts : List Live) (moment : ℕ) (o : Option Live) → first (due_timers ts moment) ≡ o → length ts ≤ timer_limit → length (after_first ts o) ≤ timer_limit
fired_few ts moment None e few = few
fired_few ts moment (Some t) e few =
    let less = shorter ts t.id (in_is_live ts t (is_taken ts moment t e).inside) in
    omega (arith, few, less, again_short t t.period, length-append (cleared ts t.id) (again t t.period))

started_few : (h : Host) (delay : ℕ) (period : Option ℕ) (f : ObjId) → is_fit h (starts delay period f) ≡ true → length (started h.timers h.clock delay period f) ≤ timer_limit
started_few h delay period f fit =
    let few = ltb-true (length h.timers) timer_limit (and_parts (nat_lt (length h.timers) timer_limit) (nat_le delay time_limit) (and_parts (nat_lt (length h.timers) timer_limit && nat_le delay time_limit) (is_period period) fit).0).0 in
    omega (arith, few, length_push h.timers (record { id = least_free h.timers; due = h.clock + delay; period = period; call = f }))

host_fit_literal : (h : Host) (g : HostStep) → is_fit h g ≡ true → LiteralHostStep g → LiteralHost h → LiteralHost (after_fit h g)
host_fit_literal h (in_nodes g) fit i r = record { nodes = node_step_literal h.nodes g i r.nodes; listeners = r.listeners; timers = r.timers }
host_fit_literal h (listens l) fit i r = record { nodes = r.nodes; listeners = listeners_more h.listeners l i r.listeners; timers = r.timers }
host_fit_literal h (forgets l) fit i r = record { nodes = r.nodes; listeners = All-filter (λ m. not (is_same_listener l m)) LiteralListener h.listeners r.listeners; timers = r.timers }
host_fit_literal h (starts delay period f) fit i r = record { nodes = r.nodes; listeners = r.listeners; timers = started_few h delay period f fit }
host_fit_literal h (clears id) fit i r = record { nodes = r.nodes; listeners = r.listeners; timers = le_trans (no_longer h.timers id) r.timers }
host_fit_literal h (fires moment) fit i r = record { nodes = r.nodes; listeners = r.listeners; timers = fired_few h.timers moment (next_timer h moment) refl r.timers }
host_fit_literal h (clock_at moment) fit i r = record { nodes = r.nodes; listeners = r.listeners; timers = r.timers }

either_host : (b : Bool) (h k : Host) → LiteralHost h → LiteralHost k → LiteralHost (if b then h else k)
either_host true h k r s = r
either_host false h k r s = s

pub host_step_literal : (h : Host) (g : HostStep) → LiteralHostStep g → LiteralHost h → LiteralHost (after_host h g)
host_step_literal h g i r = by_case (is_fit h g) refl
  where
    by_case : (b : Bool) → is_fit h g ≡ b → LiteralHost (if b then after_fit h g else h)
    by_case true e = host_fit_literal h g e i r
    by_case false e = r

-- ---- new nodes and events

node_made : (s : Store) (k : Kind) → LiteralHeap s.heap → LiteralHeap (with_node_object s k)
node_made s k h = by_case (may_be_made k)
  where
    by_case : (b : Bool) → LiteralHeap (if b then made s.heap (node_object s) else s.heap)
    by_case true = make_in h (node_object s) (new_in (Node (record { 0 = length s.host.nodes })) (Some node_prototype) tt)
    by_case false = h

node_hosted : (h : Host) (k : Kind) (at : ObjId) → LiteralKind k → LiteralHost h → LiteralHost (with_new_node h k at)
node_hosted h k at i r = either_host (may_be_made k) _ h (record { nodes = new_node_literal h.nodes k i r.nodes; listeners = r.listeners; timers = r.timers }) r

-- ----

pub step_literal : StepsStayLiteral
step_literal s (in_heap g none) i h = record { heap = heap_step_in h.heap g i; host = h.host }
step_literal s (puts at x v) i h = record { heap = unless_literal s at x _ (heap.put s.heap at.0 x v) h.heap (put_in h.heap at.0 x v i.0 i.1); host = h.host }
step_literal s (defines at x change) i h =
    record { heap = unless_literal s at x _ (heap.define_own s.heap at.0 x change) h.heap (define_in h.heap at.0 x change i.0 i.1); host = h.host }
step_literal s (in_event at g) i h = record { heap = event_literal s at g i h.heap; host = h.host }
step_literal s (puts_out l) i h = record { heap = h.heap; host = h.host }
step_literal s (in_host g) i h = record { heap = h.heap; host = either_host (fits_host s g) (after_host s.host g) s.host (host_step_literal s.host g i h.host) h.host }
step_literal s (makes_node k) i h = record { heap = node_made s k h.heap; host = node_hosted s.host k (at_place (length s.heap.objects)) i h.host }
step_literal s makes_event i h = record { heap = make_in h.heap event_object (new_in (Event new_parts) (Some event_prototype) no_text); host = h.host }

-- ---- what comes to rest

settlings_literal : (n : ℕ) (s : Store) → LiteralStore s → LiteralStore (after_steps s (settlings n))
settlings_literal zero s h = h
settlings_literal (suc k) s h = settlings_literal k (after_step s (in_event (at_place k) rests)) (step_literal s (in_event (at_place k) rests) tt h)

pub settled_literal : (s : Store) → LiteralStore s → LiteralStore (settled s)
settled_literal s h = settlings_literal (length s.heap.objects) s h
