-- Pages that are loaded, and host events.
use Rattle.std.proofs.Common.{true, false, List, []}
use Rattle.std.specs.Prelude.{◌∷◌, Option, Some, None, codes, refl}
use Rattle.js_core.specs.Tree as tree
use Rattle.dom_tree.specs.Steps.{sets_value}
use Rattle.dom_tree.specs.Trees.{find_id}
use Rattle.js_values.specs.declared.event.Event.{Event}
use Rattle.js_values.specs.declared.event.Event.TheVariants as event
use Rattle.js_values.specs.declared.ids.NodeId.{NodeId}
use Rattle.page_host.specs.Steps.{in_nodes}
use Rattle.page_meaning.specs.Pages.{Page, after_scripts, at_element, do_event, load_of, run_all, with_input}
use Rattle.page_meaning.specs.Pristine.{pristine}
use Rattle.page_meaning.specs.Steps.{in_host}
use Rattle.page_meaning.specs.Store.{Store}
use Rattle.page_meaning.specs.Tasks.{Fires, Name, Passes, Script, after_task}
use Rattle.literal_values.proofs.Callers.{pristine_literal, step_literal, text_seen}
use Rattle.literal_values.specs.Events.{LiteralEvent, LiteralEvents}
use Rattle.literal_values.specs.Nodes.{LiteralNodes}
use Rattle.literal_values.specs.Stores.{LiteralStore}
use Rattle.literal_values.specs.Trees.{LiteralScripts}
use Rattle.written_pages.proofs.Tasks.{after_task_literal}
use Rattle.written_pages.specs.Laws.{PagesStayLiteral}

scripts_literal : (bodies : List tree.Stmts) (s : Store) → LiteralScripts bodies → LiteralStore s → LiteralStore (after_scripts bodies s)
scripts_literal [] s h l = l
scripts_literal (body ∷ bodies) s h l = scripts_literal bodies (after_task (Script body) s) h.1 (after_task_literal (Script body) s h.0 l)

load_literal : (page : Page) → LiteralNodes page.nodes → LiteralScripts page.scripts → LiteralStore (load_of page)
load_literal page n h = scripts_literal page.scripts (pristine page.nodes) h (pristine_literal page.nodes n)

element_literal : (o : Option NodeId) (f : NodeId → Store → Store) (s : Store) → ((k : NodeId) → LiteralStore (f k s)) → LiteralStore s → LiteralStore (at_element o f s)
element_literal None f s h l = record { heap = l.heap; host = l.host }
element_literal (Some k) f s h l = h k

event_literal : (e : Event) (s : Store) → LiteralEvent e → LiteralStore s → LiteralStore (do_event e s)
event_literal (event.Call f) s h l = after_task_literal (Name f) s h l
event_literal (event.Fire x id bubbles cancelable) s h l =
    element_literal (find_id s.host.nodes id) (λ k. after_task (Fires x bubbles cancelable k)) s (λ k. after_task_literal (Fires x bubbles cancelable k) s h l) l
event_literal (event.Input x id) s h l =
    element_literal (find_id s.host.nodes id) (λ k t. after_task (Fires (codes "input") true false k) (with_input x k t)) s
    (λ k. after_task_literal (Fires (codes "input") true false k) (with_input x k s) (text_seen (codes "input") refl) (step_literal s (in_host (in_nodes (sets_value k x))) h l)) l
event_literal (event.Tick n) s h l = after_task_literal (Passes n) s tt l
event_literal event.Dom s h l = record { heap = l.heap; host = l.host }

events_literal : (s : Store) (es : List Event) → LiteralEvents es → LiteralStore s → LiteralStore (run_all s es)
events_literal s [] h l = l
events_literal s (e ∷ es) h l = events_literal (do_event e s) es h.1 (event_literal e s h.0 l)

pub pages_stay_literal : PagesStayLiteral
pages_stay_literal page events n h k = events_literal (load_of page) events k (load_literal page n h)
