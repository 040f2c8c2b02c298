-- What tasks and host events keep.
use Rattle.std.specs.Prelude.{◌≡◌, refl, ℕ, List, [], ◌∷◌, Option, Some, None, true, false, length}
use Rattle.std.proofs.Common.{sym, ap, subst, ◌∙◌}
use Rattle.js_core.specs.Text.{Text}
use Rattle.js_core.specs.Tree as tree
use Rattle.js_values.specs.declared.event.Event.{Event}
use Rattle.js_values.specs.declared.event.Event.TheVariants as event
use Rattle.js_values.specs.declared.ids.NodeId.{NodeId}
use Rattle.js_values.specs.declared.line.LineKind.TheVariants.{Stopped as StoppedLine, Dom, NoElement}
use Rattle.dom_tree.specs.DomText.{dom_text}
use Rattle.dom_tree.specs.Trees.{find_id}
use Rattle.object_heap.specs.Heap.{IsSound}
use Rattle.object_heap.specs.Laws as heap
use Rattle.object_heap.proofs.Callers.{kinds_steps, sound_steps}
use Rattle.page_meaning.specs.declared.signal.Signal.{Signal}
use Rattle.page_meaning.specs.declared.signal.Signal.TheVariants.{Value as Val, Thrown, Return, Break, Continue}
use Rattle.page_meaning.specs.Act.{LeadsTo, Outcome, Ended, Stopped}
use Rattle.page_meaning.specs.Calls.{calls_at}
use Rattle.page_meaning.specs.Kept.{Keeps, keeps_on, one_step}
use Rattle.page_meaning.specs.Laws.{KeepsKinds, LinesGrow, LoadsSound, StaysSound, TasksKeep}
use Rattle.dom_tree.specs.Steps.{sets_value}
use Rattle.page_host.specs.Steps.{in_nodes}
use Rattle.page_meaning.specs.Pages.{after_scripts, at_element, do_event, document_node, with_input}
use Rattle.page_meaning.specs.Pristine.{pristine}
use Rattle.page_meaning.specs.Steps.{Step, in_host, puts_out, after_steps}
use Rattle.page_meaning.specs.Store.{Store}
use Rattle.page_meaning.proofs.Beginning.{pristine_sound}
use Rattle.page_meaning.proofs.Stepping.{heap_of_steps, lines_of_steps}
use Rattle.page_meaning.specs.Tasks.{Task, Fires, Name, Passes, Script, after_task, depth_limit, finished, settled, settlings, step_limit, task_of, uncaught_line}

pub tasks_keep : TasksKeep
tasks_keep depth task s n = (task_of (calls_at depth) task).leads s n

-- ---- what an end leaves

settled_keeps : (s t : Store) → Keeps s t → Keeps s (settled t)
settled_keeps s t k = keeps_on s t (settled t) k (record { steps = settlings (length t.heap.objects); is = refl })

finished_keeps : (s : Store) (n : ℕ) (o : Outcome Signal) → LeadsTo s n o → Keeps s (finished o)
finished_keeps s n (Ended (Val v) t m) l = settled_keeps s t l.1
finished_keeps s n (Ended (Return v) t m) l = settled_keeps s t l.1
finished_keeps s n (Ended Break t m) l = settled_keeps s t l.1
finished_keeps s n (Ended Continue t m) l = settled_keeps s t l.1
finished_keeps s n (Ended (Thrown v) t m) l = keeps_on s (settled t) _ (settled_keeps s t l.1) (one_step (settled t) (puts_out (uncaught_line t v)))
finished_keeps s n (Stopped t) l = keeps_on s (settled t) _ (settled_keeps s t l) (one_step (settled t) (puts_out (record { kind = StoppedLine; text = [] })))

pub task_keeps : (s : Store) (task : Task) → Keeps s (after_task task s)
task_keeps s task = finished_keeps s step_limit ((task_of (calls_at depth_limit) task).run s step_limit) ((task_of (calls_at depth_limit) task).leads s step_limit)

-- ---- host events

element_keeps : (o : Option NodeId) (f : NodeId → Store → Store) (s : Store) → ((k : NodeId) → Keeps s (f k s)) → Keeps s (at_element o f s)
element_keeps None f s g = one_step s (puts_out (record { kind = NoElement; text = [] }))
element_keeps (Some k) f s g = g k

input_keeps : (x : Text) (k : NodeId) (s : Store) → Keeps s (with_input x k s)
input_keeps x k s = one_step s (in_host (in_nodes (sets_value k x)))

pub event_keeps : (s : Store) (e : Event) → Keeps s (do_event e s)
event_keeps s (event.Call f) = task_keeps s (Name f)
event_keeps s (event.Fire x id bubbles cancelable) =
    element_keeps (find_id s.host.nodes id) (λ k. after_task (Fires x bubbles cancelable k)) s (λ k. task_keeps s (Fires x bubbles cancelable k))
event_keeps s (event.Input x id) =
    element_keeps (find_id s.host.nodes id) _ s (λ k. keeps_on s (with_input x k s) _ (input_keeps x k s) (task_keeps (with_input x k s) (Fires _ true false k)))
event_keeps s (event.Tick n) = task_keeps s (Passes n)
event_keeps s event.Dom = one_step s (puts_out (record { kind = Dom; text = dom_text s.host.nodes document_node }))

-- ---- the laws

pub lines_grow : LinesGrow
lines_grow s e =
    let k = event_keeps s e in
    ((lines_of_steps s k.steps).0, ap (λ t. t.lines) k.is ∙ (lines_of_steps s k.steps).1)

task_heap : (s : Store) (task : Task) → (changes : List heap.Step) × ((after_task task s).heap ≡ heap.after_steps s.heap changes)
task_heap s task =
    let k = task_keeps s task in
    ((heap_of_steps s k.steps).0, ap (λ t. t.heap) k.is ∙ (heap_of_steps s k.steps).1)

pub stays_sound : StaysSound
stays_sound s task sound = subst IsSound (sym (task_heap s task).1) (sound_steps s.heap (task_heap s task).0 sound)

pub keeps_kinds : KeepsKinds
keeps_kinds s task k there =
    rw (task_heap s task).1 (kinds_steps s.heap (task_heap s task).0 k there)

-- ---- pages

scripts_sound : (scripts : List tree.Stmts) (s : Store) → IsSound s.heap → IsSound (after_scripts scripts s).heap
scripts_sound [] s sound = sound
scripts_sound (body ∷ bodies) s sound = scripts_sound bodies (after_task (Script body) s) (stays_sound s (Script body) sound)

pub loads_sound : LoadsSound
loads_sound page = scripts_sound page.scripts (pristine page.nodes) (pristine_sound page.nodes)
