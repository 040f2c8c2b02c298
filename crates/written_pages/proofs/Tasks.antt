-- Scripts, calls by name, host events and time that passes.
use Rattle.std.proofs.Common.{[]}
use Rattle.std.specs.Prelude.{⊤}
use Rattle.js_core.specs.Tree as tree
use Rattle.code_table.specs.Declarations.{functions_of, variables_of}
use Rattle.js_values.specs.declared.value.Value.TheVariants.{Undefined}
use Rattle.page_meaning.specs.Act.{Calls, Outcome, Ended, Stopped}
use Rattle.page_meaning.specs.Calls.{calls_at}
use Rattle.page_meaning.specs.Events.{initialises}
use Rattle.page_meaning.specs.Functions.{call_end}
use Rattle.page_meaning.specs.Store.{Store}
use Rattle.page_meaning.specs.Tasks.{Task, Script, Name, Fires, Passes, after_task, depth_limit, finished, run_script, step_limit, task_of, top}
use Rattle.page_meaning.specs.declared.signal.Signal.{Signal}
use Rattle.page_meaning.specs.declared.signal.Signal.TheVariants as signal
use Rattle.literal_values.proofs.Callers.{functions_literal, settled_literal, variables_literal}
use Rattle.literal_values.specs.Stores.{LiteralStore}
use Rattle.literal_values.specs.Trees.{LiteralStmts}
use Rattle.literal_values.specs.Values.{IsName, IsText}
use Rattle.written_pages.proofs.Acts.{also_is, bind_is, ret_is}
use Rattle.written_pages.proofs.Calling.{calls_are}
use Rattle.written_pages.proofs.Dispatching.{deliver_is}
use Rattle.written_pages.proofs.Functions.{call_end_is, declare_globals_is, global_variables_is}
use Rattle.written_pages.proofs.Names.{read_name_is}
use Rattle.written_pages.proofs.Primitives.{changes_event_is, make_event_is}
use Rattle.written_pages.proofs.Statements.{exec_all_is}
use Rattle.written_pages.proofs.TimerRows.{pass_is}
use Rattle.written_pages.specs.Acts.{CallsAre, OutcomeIs, SignalIs, Writes}

abbrev pub LiteralTask : Task → Type 0
LiteralTask (Script body) = LiteralStmts body
LiteralTask (Name x) = IsName x
LiteralTask (Fires x bubbles cancelable k) = IsText x
LiteralTask (Passes n) = ⊤

script_is : {calls : Calls} → CallsAre calls → (body : tree.Stmts) → LiteralStmts body → Writes (run_script calls body)
script_is c body h =
    also_is (declare_globals_is (functions_of body) (functions_literal body h)) (λ v p.
    also_is (global_variables_is (variables_of body) (variables_literal body h)) (λ w q.
    bind_is (exec_all_is c top tt body h) (λ s r. ret_is (call_end s) (call_end_is s r))))

pub task_is : {calls : Calls} → CallsAre calls → (task : Task) → LiteralTask task → Writes (task_of calls task)
task_is c (Script body) h = script_is c body h
task_is c (Name x) h = also_is (read_name_is top x h) (λ f p. c.call f Undefined [] tt tt)
task_is c (Fires x bubbles cancelable k) h =
    bind_is make_event_is (λ e p. bind_is (changes_event_is e (initialises x bubbles cancelable) h) (λ u q. deliver_is c e k))
task_is c (Passes n) h = pass_is c n

-- a line changes neither the heap nor the host
finished_literal : (o : Outcome Signal) → OutcomeIs SignalIs o → LiteralStore (finished o)
finished_literal (Ended (signal.Thrown v) s n) h = let l = settled_literal s h.1 in record { heap = l.heap; host = l.host }
finished_literal (Ended (signal.Value v) s n) h = settled_literal s h.1
finished_literal (Ended (signal.Return v) s n) h = settled_literal s h.1
finished_literal (Ended signal.Break s n) h = settled_literal s h.1
finished_literal (Ended signal.Continue s n) h = settled_literal s h.1
finished_literal (Stopped s) h = let l = settled_literal s h in record { heap = l.heap; host = l.host }

pub after_task_literal : (task : Task) (s : Store) → LiteralTask task → LiteralStore s → LiteralStore (after_task task s)
after_task_literal task s h l =
    finished_literal ((task_of (calls_at depth_limit) task).run s step_limit) ((task_is (calls_are depth_limit) task h).run s step_limit l)
