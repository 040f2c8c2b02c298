-- Between two tasks no event is under dispatch, and no attribute's name begins with `on` where none did.
use Rattle.std.proofs.Common.{◌≡◌, ◌⊎◌, inl, inr, refl, sym, ap, subst, ◌∙◌, ℕ, zero, suc, ◌<◌, ◌≤◌, Bool, true, false, not, List, [], ◌∷◌, ◌++◌, Option, Some, None, codes, length, arith}
use Rattle.std.proofs.lemmas.Bool.{and_from, and_parts, cases_lt}
use Rattle.std.specs.List.{list_all}
use Rattle.dom_tree.specs.Node.{Nodes}
use Rattle.dom_tree.specs.Steps.{sets_value}
use Rattle.dom_tree.specs.Trees.{find_id}
use Rattle.heap_walker.specs.Still.{EventsAreQuiet, IsQuiet}
use Rattle.js_core.specs.Tree as tree
use Rattle.js_values.specs.declared.event.Event.{Event}
use Rattle.js_values.specs.declared.event.Event.TheVariants as event
use Rattle.js_values.specs.declared.ids.NodeId.{NodeId}
use Rattle.object_heap.proofs.Callers.{object_absent, object_past, object_set_other, object_set_same}
use Rattle.object_heap.specs.Chain.{object_at}
use Rattle.object_heap.specs.Object.{Object, changed_event, is_event, with_class}
use Rattle.object_heap.specs.declared.object.EventParts.{EventParts}
use Rattle.object_heap.specs.declared.object.Class.{Class}
use Rattle.object_heap.specs.declared.object.Class.TheVariants as class
use Rattle.object_shapes.proofs.Callers.{plain_stays}
use Rattle.page_host.specs.Sound.{ArePlain}
use Rattle.page_host.specs.Steps.{in_nodes}
use Rattle.page_meaning.specs.Act.{Ended, LeadsTo, Outcome, Stopped}
use Rattle.page_meaning.specs.Calls.{calls_at}
use Rattle.page_meaning.specs.Events.{after_event, rests}
use Rattle.page_meaning.specs.Kept.{Keeps}
use Rattle.page_meaning.specs.Pages.{Page, after_scripts, at_element, do_event, load_of, run_all, run_of, with_input}
use Rattle.page_meaning.specs.Places.{array_prototype_place, at_place, boolean_prototype_place, built_in_count, console_place, error_prototype_place, event_prototype_place, function_place, math_place, node_prototype_place, number_prototype_place, range_error_prototype_place, reference_error_prototype_place, string_prototype_place, type_error_prototype_place}
use Rattle.page_meaning.specs.Pristine.{built_ins, node_objects, pristine}
use Rattle.page_meaning.specs.Steps.{Step, after_step, after_steps, in_event, in_host}
use Rattle.page_meaning.specs.Store.{Store}
use Rattle.page_meaning.specs.Tasks.{Fires, Name, Passes, Script, Task, after_task, depth_limit, finished, settled, settlings, step_limit, task_of}
use Rattle.page_meaning.specs.declared.signal.Signal.{Signal}
use Rattle.page_meaning.specs.declared.signal.Signal.TheVariants as signal

-- ---- events

-- the object is not an event under dispatch
abbrev QuietAt : Object → Type 0
QuietAt o = (parts : EventParts) → o.class ≡ class.Event parts → IsQuiet parts

rested_object : Object → Object
rested_object o = with_class o (changed_event (after_event rests) o.class)

rested_class : (c : Class) (parts : EventParts) → changed_event (after_event rests) c ≡ class.Event parts → IsQuiet parts
rested_class class.Plain parts is = absurd (cc is)
rested_class class.List parts is = absurd (cc is)
rested_class (class.Page c env) parts is = absurd (cc is)
rested_class (class.Native which) parts is = absurd (cc is)
rested_class (class.Bound target this args) parts is = absurd (cc is)
rested_class class.Fault parts is = absurd (cc is)
rested_class class.Math parts is = absurd (cc is)
rested_class class.Window parts is = absurd (cc is)
rested_class (class.Node k) parts is = absurd (cc is)
rested_class (class.Event old) parts is =
    let same : after_event rests old ≡ parts = cc is in
    subst IsQuiet same (record { phase = refl; current = refl })

rested_quiet : (o : Object) → QuietAt (rested_object o)
unfolding rested_object
rested_quiet o parts is = rested_class o.class parts is

-- where those above are quiet, all are once these are settled
settled_down : (n : ℕ) (s : Store) → ((k : ℕ) → n ≤ k → QuietAt (object_at s.heap.objects k)) → EventsAreQuiet (after_steps s (settlings n))
unfolding rested_object
settled_down zero s above = λ k. above k (omega arith)
settled_down (suc n) s above = settled_down n (after_step s (in_event (at_place n) rests)) (λ k low. at k low (cases_lt n k))
  where
    o : Object
    o = object_at s.heap.objects n

    itself : (n < length s.heap.objects) ⊎ (length s.heap.objects ≤ n) → QuietAt (object_at (after_step s (in_event (at_place n) rests)).heap.objects n)
    itself (inl there) = subst QuietAt (sym (object_set_same s.heap.objects n (rested_object o) there)) (rested_quiet o)
    itself (inr past) =
        let same = object_past s.heap n (rested_object o) past in
        let none = object_absent s.heap.objects n past in
        λ parts is.
        let bad : class.Plain ≡ class.Event parts = sym (ap (λ x. x.class) (ap (λ h. object_at h.objects n) same ∙ none)) ∙ is in
        absurd (cc bad)

    at : (k : ℕ) → n ≤ k → (n < k) ⊎ (k ≤ n) → QuietAt (object_at (after_step s (in_event (at_place n) rests)).heap.objects k)
    at k low (inl above_n) =
        subst QuietAt (sym (object_set_other s.heap.objects n k (rested_object o) (λ e. omega (arith, e, above_n)))) (above k above_n)
    at k low (inr up_to) =
        let e : n ≡ k = omega (arith, low, up_to) in
        subst (λ j. QuietAt (object_at (after_step s (in_event (at_place n) rests)).heap.objects j)) e (itself (cases_lt n (length s.heap.objects)))

absent_quiet : (s : Store) (k : ℕ) → length s.heap.objects ≤ k → QuietAt (object_at s.heap.objects k)
absent_quiet s k past = subst QuietAt (sym (object_absent s.heap.objects k past)) (λ parts is. absurd (cc is))

settled_quiet : (s : Store) → EventsAreQuiet (settled s)
settled_quiet s = settled_down (length s.heap.objects) s (absent_quiet s)

finished_quiet : (o : Outcome Signal) → EventsAreQuiet (finished o)
finished_quiet (Ended (signal.Value v) s n) = settled_quiet s
finished_quiet (Ended (signal.Return v) s n) = settled_quiet s
finished_quiet (Ended signal.Break s n) = settled_quiet s
finished_quiet (Ended signal.Continue s n) = settled_quiet s
finished_quiet (Ended (signal.Thrown v) s n) = settled_quiet s
finished_quiet (Stopped s) = settled_quiet s

-- ---- attributes

steps_plain : (s : Store) (steps : List Step) → ArePlain s.host.nodes → ArePlain (after_steps s steps).host.nodes
steps_plain s [] plain = plain
steps_plain s (g ∷ gs) plain = steps_plain (after_step s g) gs (plain_stays s g plain)

kept_plain : {s t : Store} → Keeps s t → ArePlain s.host.nodes → ArePlain t.host.nodes
kept_plain {s = s} k plain = subst (λ u. ArePlain u.host.nodes) (sym k.is) (steps_plain s k.steps plain)

settled_plain : (s : Store) → ArePlain s.host.nodes → ArePlain (settled s).host.nodes
settled_plain s plain = steps_plain s (settlings (length s.heap.objects)) plain

finished_plain : (s : Store) (n : ℕ) (o : Outcome Signal) → LeadsTo s n o → ArePlain s.host.nodes → ArePlain (finished o).host.nodes
finished_plain s n (Ended (signal.Value v) t m) l plain = settled_plain t (kept_plain l.1 plain)
finished_plain s n (Ended (signal.Return v) t m) l plain = settled_plain t (kept_plain l.1 plain)
finished_plain s n (Ended signal.Break t m) l plain = settled_plain t (kept_plain l.1 plain)
finished_plain s n (Ended signal.Continue t m) l plain = settled_plain t (kept_plain l.1 plain)
finished_plain s n (Ended (signal.Thrown v) t m) l plain = settled_plain t (kept_plain l.1 plain)
finished_plain s n (Stopped t) l plain = settled_plain t (kept_plain l plain)

-- ---- both, between two tasks

pub record IsCalm (s : Store) : Type 0 where
  pub events : EventsAreQuiet s
  pub plain : ArePlain s.host.nodes

task_calm : (task : Task) (s : Store) → ArePlain s.host.nodes → IsCalm (after_task task s)
task_calm task s plain = record {
  events = finished_quiet ((task_of (calls_at depth_limit) task).run s step_limit);
  plain = finished_plain s step_limit ((task_of (calls_at depth_limit) task).run s step_limit) ((task_of (calls_at depth_limit) task).leads s step_limit) plain;
}

scripts_calm : (bodies : List tree.Stmts) (s : Store) → IsCalm s → IsCalm (after_scripts bodies s)
scripts_calm [] s calm = calm
scripts_calm (body ∷ bodies) s calm = scripts_calm bodies (after_task (Script body) s) (task_calm (Script body) s calm.plain)

element_calm : (o : Option NodeId) (f : NodeId → Store → Store) (s : Store) → IsCalm s → ((k : NodeId) → IsCalm (f k s)) → IsCalm (at_element o f s)
element_calm None f s calm up = record { events = calm.events; plain = calm.plain }
element_calm (Some k) f s calm up = up k

event_calm : (e : Event) (s : Store) → IsCalm s → IsCalm (do_event e s)
event_calm (event.Call f) s calm = task_calm (Name f) s calm.plain
event_calm (event.Fire x id bubbles cancelable) s calm =
    element_calm (find_id s.host.nodes id) (λ k. after_task (Fires x bubbles cancelable k)) s calm (λ k. task_calm (Fires x bubbles cancelable k) s calm.plain)
event_calm (event.Input x id) s calm =
    element_calm (find_id s.host.nodes id) (λ k t. after_task (Fires (codes "input") true false k) (with_input x k t)) s calm
    (λ k. task_calm (Fires (codes "input") true false k) (with_input x k s) (plain_stays s (in_host (in_nodes (sets_value k x))) calm.plain))
event_calm (event.Tick n) s calm = task_calm (Passes n) s calm.plain
event_calm event.Dom s calm = record { events = calm.events; plain = calm.plain }

events_calm : (es : List Event) (s : Store) → IsCalm s → IsCalm (run_all s es)
events_calm [] s calm = calm
events_calm (e ∷ es) s calm = events_calm es (do_event e s) (event_calm e s calm)

-- ---- before the first task

abbrev are_no_events : List Object → Bool
are_no_events os = list_all (λ o. not (is_event o.class)) os

no_event_at : (os : List Object) (k : ℕ) → are_no_events os ≡ true → not (is_event (object_at os k).class) ≡ true
no_event_at [] k none = refl
no_event_at (o ∷ os) zero none = (and_parts (not (is_event o.class)) (are_no_events os) none).0
no_event_at (o ∷ os) (suc k) none = no_event_at os k (and_parts (not (is_event o.class)) (are_no_events os) none).1

none_after : (os us : List Object) → are_no_events os ≡ true → are_no_events us ≡ true → are_no_events (os ++ us) ≡ true
none_after [] us first none = none
none_after (o ∷ os) us first none =
    let parts = and_parts (not (is_event o.class)) (are_no_events os) first in
    and_from (not (is_event o.class)) (are_no_events (os ++ us)) parts.0 (none_after os us parts.1 none)

nodes_no_events : (k : ℕ) (t : Nodes) → are_no_events (node_objects k t) ≡ true
nodes_no_events k [] = refl
nodes_no_events k (n ∷ t) = nodes_no_events (suc k) t

built_no_events : are_no_events built_ins ≡ true
unfolding array_prototype_place string_prototype_place number_prototype_place boolean_prototype_place math_place console_place error_prototype_place
    type_error_prototype_place range_error_prototype_place reference_error_prototype_place function_place node_prototype_place event_prototype_place built_in_count
built_no_events = refl

pristine_calm : (t : Nodes) → ArePlain t → IsCalm (pristine t)
pristine_calm t plain = record {
  events = λ k parts is.
      let none = no_event_at (pristine t).heap.objects k (none_after built_ins (node_objects 0 t) built_no_events (nodes_no_events 0 t)) in
      let bad : false ≡ true = sym (ap (λ c. not (is_event c)) is) ∙ none in
      absurd (cc bad);
  plain = plain;
}

-- a page after its scripts and any events
pub run_calm : (page : Page) (es : List Event) → ArePlain page.nodes → IsCalm (run_of page es)
run_calm page es plain = events_calm es (load_of page) (scripts_calm page.scripts (pristine page.nodes) (pristine_calm page.nodes plain))
