-- What tasks come to, by what their parts do.
use Rattle.std.proofs.Common.{◌≡◌, refl, sym, ap, ◌∙◌, ℕ, Bool, List, [], Some, None, Result, Ok, Err, IfOk, OnOk}
use Rattle.code_table.specs.Declarations.{functions_of, variables_of}
use Rattle.code_table.specs.Node.{block_node}
use Rattle.js_core.specs.Tree as tree
use Rattle.js_values.specs.declared.ids.NodeId.{NodeId}
use Rattle.js_values.specs.declared.ids.ObjId.{ObjId}
use Rattle.js_values.specs.declared.line.LineKind.{LineKind}
use Rattle.js_values.specs.declared.line.LineKind.TheVariants.{Uncaught, Stopped as StoppedLine}
use Rattle.js_values.specs.declared.value.Value.{Value}
use Rattle.js_values.specs.declared.value.Value.TheVariants.{Undefined, Object}
use Rattle.page_meaning.specs.declared.signal.Signal.{Signal}
use Rattle.page_meaning.specs.declared.signal.Signal.TheVariants.{Value as Val, Thrown, Return, Break, Continue}
use Rattle.page_meaning.specs.Act.{Act, Calls, Outcome, Ended, Stopped, also, bind, on_value, ret, then_on}
use Rattle.page_meaning.specs.Calls.{calls_at}
use Rattle.page_meaning.specs.Dispatch.{deliver}
use Rattle.page_meaning.specs.Functions.{call_end, declare_globals, global_variables}
use Rattle.page_meaning.specs.Names.{read_name}
use Rattle.page_meaning.specs.Places.{window}
use Rattle.page_meaning.specs.Events.{initialises}
use Rattle.page_meaning.specs.Primitives.{changes_event, make_event, put_line}
use Rattle.page_meaning.specs.Store.{Store, with_line}
use Rattle.page_meaning.specs.Tasks.{Fires, Name, Task, after_task, depth_limit, finished, run_script, settled, step_limit, task_of, top}
use Rattle.page_meaning.specs.Lines.{uncaught_text}
use Rattle.page_frames.specs.declared.frame.Begin.TheVariants as begin
use Rattle.page_frames.specs.Parts.{mean_node}
use Rattle.page_frames.specs.Rest.{mean_of}
use Rattle.page_frames.specs.Where.{Where, here_of, spot_node}
use Rattle.page_state.specs.Does.{Does}
use Rattle.page_machine.specs.declared.machine.End.{End}
use Rattle.page_machine.specs.declared.machine.End.TheVariants as end
use Rattle.page_machine.specs.Ends.{outcome_of}
use Rattle.page_machine.specs.Running.{declared, top_body}

-- ---- scripts

one_by_one : (o : Outcome Signal) (b c : Act) → then_on o (on_value (λ _. also b (λ _. c))) ≡ then_on (then_on o (on_value (λ _. b))) (on_value (λ _. c))
one_by_one (Ended (Val v) s n) b c = refl
one_by_one (Ended (Thrown v) s n) b c = refl
one_by_one (Ended (Return v) s n) b c = refl
one_by_one (Ended Break s n) b c = refl
one_by_one (Ended Continue s n) b c = refl
one_by_one (Stopped s) b c = refl

script_parts : (calls : Calls) (body : tree.Stmts) (s : Store) (n : ℕ) → (run_script calls body).run s n ≡ (also (declared body) (λ _. top_body calls body)).run s n
script_parts calls body s n = one_by_one ((declare_globals (functions_of body)).run s n) (global_variables (variables_of body)) (top_body calls body)

script_ran : (calls : Calls) (body : tree.Stmts) (s t : Store) (n : ℕ) (o : Outcome Signal) → Does (λ _. declared body) s (Val Undefined) t → o ≡ (top_body calls body).run t n → o ≡ (run_script calls body).run s n
script_ran calls body s t n o d e = e ∙ sym (script_parts calls body s n ∙ ap (λ p. then_on p (on_value (λ _. top_body calls body))) (d.is calls n))

pub script_if_ran : {E : Type 0} (calls : Calls) (body : tree.Stmts) (s t u : Store) (n k : ℕ) (r : Result End E) → Does (λ _. declared body) s (Val Undefined) t → IfOk r (λ e. outcome_of e u k ≡ (top_body calls body).run t n)
    → IfOk r (λ e. outcome_of e u k ≡ (run_script calls body).run s n)
script_if_ran calls body s t u n k (Ok e) d h = script_ran calls body s t n (outcome_of e u k) d h
script_if_ran calls body s t u n k (Err x) d h = h

pub script_threw : (calls : Calls) (body : tree.Stmts) (s t : Store) (n : ℕ) (v : Value) → Does (λ _. declared body) s (Thrown v) t → Ended (Thrown v) t n ≡ (run_script calls body).run s n
script_threw calls body s t n v d = sym (script_parts calls body s n ∙ ap (λ p. then_on p (on_value (λ _. top_body calls body))) (d.is calls n))

at_top : (f : Where) → f.env ≡ None → f.this ≡ Object window → here_of f ≡ top
at_top f e t = rw (e, t) refl

pub body_ran : (f : Where) (body : tree.Stmts) (calls : Calls) (s : Store) (n : ℕ) (o : Outcome Signal) → f.env ≡ None → f.this ≡ Object window → spot_node f ≡ Some (block_node body)
    → o ≡ (mean_of calls (begin.Node f)).run s n → then_on o (λ s. ret (call_end s)) ≡ (top_body calls body).run s n
body_ran f body calls s n o e t b h =
    ap (λ p. then_on p (λ s. ret (call_end s)))
    (h ∙ ap (λ here. (mean_node calls here (spot_node f)).run s n) (at_top f e t) ∙ ap (λ at. (mean_node calls top at).run s n) b)

-- ---- calls by name

name_called : (calls : Calls) (x : List ℕ) (s t : Store) (n : ℕ) (f : Value) (o : Outcome Signal) → Does (λ _. read_name top x) s (Val f) t → o ≡ (calls.call f Undefined []).run t n → o ≡ (task_of calls (Name x)).run s n
name_called calls x s t n f o d e = e ∙ sym (ap (λ p. then_on p (on_value (λ f. calls.call f Undefined []))) (d.is calls n))

pub name_if_called : {E : Type 0} (calls : Calls) (x : List ℕ) (s t u : Store) (n k : ℕ) (f : Value) (r : Result End E) → Does (λ _. read_name top x) s (Val f) t → IfOk r (λ e. outcome_of e u k ≡ (calls.call f Undefined []).run t n)
    → IfOk r (λ e. outcome_of e u k ≡ (task_of calls (Name x)).run s n)
name_if_called calls x s t u n k f (Ok e) d h = name_called calls x s t n f (outcome_of e u k) d h
name_if_called calls x s t u n k f (Err y) d h = h

pub name_threw : (calls : Calls) (x : List ℕ) (s t : Store) (n : ℕ) (v : Value) → Does (λ _. read_name top x) s (Thrown v) t → Ended (Thrown v) t n ≡ (task_of calls (Name x)).run s n
name_threw calls x s t n v d = sym (ap (λ p. then_on p (on_value (λ f. calls.call f Undefined []))) (d.is calls n))

-- ---- lines

abbrev store_in : (o : Outcome (Unit {0})) → Store
store_in (Ended u s n) = s
store_in (Stopped s) = s

pub line_put : (kind : LineKind) (words : List ℕ) (s t : Store) → Does (λ _. put_line kind (λ _. words)) s tt t → t ≡ with_line kind words s
line_put kind words s t d = sym (ap store_in (d.is (calls_at 0) 0))

-- a line tells what is not caught
pub uncaught_told : {E : Type 0} (r : Result (Unit {0}) E) (e : End) (v : Value) (words : List ℕ) (s u t : Store) → e ≡ end.Ended (Thrown v) → words ≡ uncaught_text s v → u ≡ settled s
    → IfOk r (λ _. Does (λ _. put_line Uncaught (λ _. words)) u tt t) → OnOk r ((n : ℕ) → t ≡ finished (outcome_of e s n))
uncaught_told (Err x) e v words s u t is w rest h = tt
uncaught_told (Ok o) e v words s u t is w rest h = λ n. rw (is, ← w, ← rest) (line_put Uncaught words u t h)

-- and what was stopped
pub stopped_told : {E : Type 0} (r : Result (Unit {0}) E) (e : End) (words : List ℕ) (s u t : Store) → e ≡ end.Stopped → words ≡ [] → u ≡ settled s
    → IfOk r (λ _. Does (λ _. put_line StoppedLine (λ _. words)) u tt t) → OnOk r ((n : ℕ) → t ≡ finished (outcome_of e s n))
stopped_told (Err x) e words s u t is w rest h = tt
stopped_told (Ok o) e words s u t is w rest h = λ n. rw (is, ← w, ← rest) (line_put StoppedLine words u t h)

-- ---- events of the host

pub event_fired : {E : Type 0} (calls : Calls) (x : List ℕ) (bubbles cancelable : Bool) (k : NodeId) (at : ObjId) (s u v t : Store) (n j : ℕ) (r : Result End E) → Does (λ _. make_event) s at u
    → Does (λ _. changes_event at (initialises x bubbles cancelable)) u tt v → IfOk r (λ e. outcome_of e t j ≡ (mean_of calls (begin.Deliver at k)).run v n)
    → IfOk r (λ e. outcome_of e t j ≡ (task_of calls (Fires x bubbles cancelable k)).run s n)
event_fired calls x bubbles cancelable k at s u v t n j (Err y) made begun h = h
event_fired calls x bubbles cancelable k at s u v t n j (Ok e) made begun h =
    h
    ∙ sym (ap (λ o. then_on o (λ a. bind (changes_event a (initialises x bubbles cancelable)) (λ _. deliver calls a k))) (made.is calls n)
    ∙ ap (λ o. then_on o (λ _. deliver calls at k)) (begun.is calls n))

-- ---- whole tasks

all_steps : 1000000 ≡ step_limit
unfolding step_limit
all_steps = refl

all_depth : 1000 ≡ depth_limit
unfolding depth_limit
all_depth = refl

pub task_done : {E : Type 0} (r : Result (Unit {0}) E) (task : Task) (s t u : Store) (e : End) (k : ℕ) → outcome_of e t k ≡ (task_of (calls_at 1000) task).run s 1000000 → OnOk r ((n : ℕ) → u ≡ finished (outcome_of e t n))
    → OnOk r (u ≡ after_task task s)
task_done (Err x) task s t u e k is h = tt
task_done (Ok y) task s t u e k is h = h k ∙ ap finished (is ∙ ap (λ d. (task_of (calls_at d) task).run s 1000000) all_depth ∙ ap (λ n. (task_of (calls_at depth_limit) task).run s n) all_steps)
