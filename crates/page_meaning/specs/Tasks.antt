-- Meaning: scripts, calls by name, and what a page becomes by them (sections 10.4.1, 13.2.1 and 14; the host's own rules on lines).
use Rattle.std.specs.Prelude.{ℕ, zero, suc, Bool, List, [], ◌∷◌, length, None}
use Rattle.code_table.specs.Declarations.{functions_of, variables_of}
use Rattle.js_core.specs.Tree as tree
use Rattle.js_values.specs.declared.line.Line.{Line}
use Rattle.js_values.specs.declared.line.LineKind.TheVariants.{Uncaught, Stopped as StoppedLine}
use Rattle.js_values.specs.declared.value.Value.{Value}
use Rattle.js_values.specs.declared.value.Value.TheVariants.{Undefined, Object}
use Rattle.js_values.specs.declared.ids.NodeId.{NodeId}
use Rattle.page_meaning.specs.Events.{initialises, rests}
use Rattle.page_meaning.specs.Steps.{Step, after_steps, in_event}
use Rattle.page_meaning.specs.declared.signal.Signal.{Signal}
use Rattle.page_meaning.specs.declared.signal.Signal.TheVariants.{Thrown}
use Rattle.page_meaning.specs.Act.{Act, Calls, Outcome, Ended, Stopped, bind, ret, also}
use Rattle.page_meaning.specs.Calls.{calls_at}
use Rattle.page_meaning.specs.Functions.{call_end, declare_globals, global_variables}
use Rattle.page_meaning.specs.Names.{Here, read_name}
use Rattle.page_meaning.specs.Places.{at_place, window}
use Rattle.page_meaning.specs.Dispatch.{deliver}
use Rattle.page_meaning.specs.Lines.{uncaught_text}
use Rattle.page_meaning.specs.Primitives.{changes_event, make_event}
use Rattle.page_meaning.specs.TimerRows.{pass}
use Rattle.page_meaning.specs.Statements.{exec_all}
use Rattle.page_meaning.specs.Store.{Store, with_line}

-- steps that a script and a host event have; functions that may be active at once. They do not unfold.
unfoldable pub step_limit : ℕ
step_limit = 1000000

unfoldable pub depth_limit : ℕ
depth_limit = 1000

-- what is run as one: a script, a call of what a global name holds, an event of the host at a node, with its type and whether it bubbles
-- and can be cancelled, or a time that passes
pub data Task : Type 0 where
  Script : tree.Stmts → Task
  Name : List ℕ → Task
  Fires : List ℕ → Bool → Bool → NodeId → Task
  Passes : ℕ → Task

-- at the top: no environment, and `this` is the global object (10.4.1.1)
abbrev pub top : Here
top = record { env = None; this = Object window }

abbrev pub run_script : Calls → tree.Stmts → Act
run_script calls body =
    also (declare_globals (functions_of body)) (λ _. also (global_variables (variables_of body)) (λ _. bind (exec_all calls top body) (λ s. ret (call_end s))))

abbrev pub task_of : Calls → Task → Act
task_of calls (Script body) = run_script calls body
task_of calls (Name x) = also (read_name top x) (λ f. calls.call f Undefined [])
task_of calls (Fires x bubbles cancelable k) = bind make_event (λ e. bind (changes_event e (initialises x bubbles cancelable)) (λ _. deliver calls e k))
task_of calls (Passes n) = pass calls n

-- events under dispatch become as after a dispatch, and others are so
abbrev pub settlings : ℕ → List Step
settlings zero = []
settlings (suc k) = in_event (at_place k) rests ∷ settlings k

abbrev pub settled : Store → Store
settled s = after_steps s (settlings (length s.heap.objects))

abbrev pub uncaught_line : Store → Value → Line
uncaught_line s v = record { kind = Uncaught; text = uncaught_text s v }

-- what an end leaves, at which no event is under dispatch: an exception and want of steps are told by a line
abbrev pub finished : Outcome Signal → Store
finished (Ended (Thrown v) s n) = with_line Uncaught (uncaught_text s v) (settled s)
finished (Ended given s n) = settled s
finished (Stopped s) = with_line StoppedLine [] (settled s)

-- the page after a task of its own, with all steps and all depth
abbrev pub after_task : Task → Store → Store
after_task task s = finished ((task_of (calls_at depth_limit) task).run s step_limit)
