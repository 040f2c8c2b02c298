-- Meaning: a page that is loaded, and what host events make of it.
use Rattle.std.specs.Prelude.{true, false, List, [], ◌∷◌, Option, Some, None, codes, length, drop}
use Rattle.js_core.specs.Text.{Text}
use Rattle.js_core.specs.Tree as tree
use Rattle.js_values.specs.declared.event.Event.{Event}
use Rattle.js_values.specs.declared.event.Event.TheVariants as event
use Rattle.js_values.specs.declared.ids.NodeId.{NodeId}
use Rattle.js_values.specs.declared.line.Line.{Line}
use Rattle.js_values.specs.declared.line.LineKind.TheVariants.{Dom, NoElement}
use Rattle.dom_tree.specs.DomText.{dom_text}
use Rattle.dom_tree.specs.Node.{Nodes}
use Rattle.dom_tree.specs.Trees.{find_id}
use Rattle.dom_tree.specs.Steps.{sets_value}
use Rattle.page_host.specs.Steps.{in_nodes}
use Rattle.page_meaning.specs.Pristine.{pristine}
use Rattle.page_meaning.specs.Steps.{after_step, in_host}
use Rattle.page_meaning.specs.Store.{Store, with_line}
use Rattle.page_meaning.specs.Tasks.{Script, Name, Fires, Passes, after_task}

-- what a page is once it is accepted: its nodes, and its scripts in document order
pub record Page : Type 0 where
  pub nodes : Nodes
  pub scripts : List tree.Stmts

-- the page after its scripts, each a task of its own
abbrev pub after_scripts : List tree.Stmts → Store → Store
after_scripts [] s = s
after_scripts (body ∷ bodies) s = after_scripts bodies (after_task (Script body) s)

abbrev pub load_of : Page → Store
load_of p = after_scripts p.scripts (pristine p.nodes)

-- the element with the id, or a line where there is none
abbrev pub at_element : Option NodeId → (NodeId → Store → Store) → Store → Store
at_element None f s = with_line NoElement [] s
at_element (Some k) f s = f k s

abbrev pub on_element : Text → (NodeId → Store → Store) → Store → Store
on_element id f s = at_element (find_id s.host.nodes id) f s

-- the value of the node becomes the text, where it is an input or a textarea
abbrev pub with_input : Text → NodeId → Store → Store
with_input x k s = after_step s (in_host (in_nodes (sets_value k x)))

abbrev pub document_node : NodeId
document_node = record { 0 = 0 }

-- the page after a host event
abbrev pub do_event : Event → Store → Store
do_event (event.Call f) s = after_task (Name f) s
do_event (event.Fire x id bubbles cancelable) s = on_element id (λ k. after_task (Fires x bubbles cancelable k)) s
do_event (event.Input x id) s = on_element id (λ k t. after_task (Fires (codes "input") true false k) (with_input x k t)) s
do_event (event.Tick n) s = after_task (Passes n) s
do_event event.Dom s = with_line Dom (dom_text s.host.nodes document_node) s

abbrev pub run_all : Store → List Event → Store
run_all s [] = s
run_all s (e ∷ es) = run_all (do_event e s) es

abbrev pub run_of : Page → List Event → Store
run_of p events = run_all (load_of p) events

-- all that a page puts out under these events
abbrev pub lines_of_run : Page → List Event → List Line
lines_of_run p events = (run_of p events).lines

-- what later events add to it
abbrev pub lines_after : Page → List Event → List Event → List Line
lines_after p earlier later = drop (length (lines_of_run p earlier)) (run_all (run_of p earlier) later).lines
