-- Tasks and host events of both pages (sections 10.4.1, 13.2.1 and 14).
use Rattle.std.proofs.Common.{◌≡◌, refl, sym, ap, subst, ◌∙◌, ◌≤◌, true, List, [], ◌∷◌, ◌++◌, length, drop, arith, ℕ, ◌+◌, Bool, false, Option, codes}
use Rattle.page_meaning.specs.Names.{Here}
use Rattle.page_meaning.specs.Statements.{exec_all}
use Rattle.std.proofs.lemmas.Bool.{and_parts}
use Rattle.js_core.specs.Tree.{code, function, no_stmts, then_stmt}
use Rattle.instrumenter.specs.Counting.{stmt_scopes}
use Rattle.instrumenter.specs.Opening.{open_stmt, open_tops}
use Rattle.instrumenter.specs.Around as around
use Rattle.instrumenter.specs.Around.{Around}
use Rattle.agreement.proofs.Unopened.{equal_trees}
use Rattle.agreement.proofs.Declared.{tops_variables}
use Rattle.agreement.proofs.Dropped.{act_as, act_from, also_dropped_rel, append_run}
use Rattle.code_table.specs.Declarations.{variables_of}
use Rattle.js_core.specs.Tree as tree
use Rattle.js_values.specs.declared.event.Event.{Event}
use Rattle.js_values.specs.declared.event.Event.TheVariants as event
use Rattle.js_values.specs.declared.ids.NodeId.{NodeId}
use Rattle.js_values.specs.declared.line.Line.{Line}
use Rattle.js_values.specs.declared.line.LineKind.TheVariants.{Dom, NoElement}
use Rattle.dom_tree.specs.Steps.{sets_value}
use Rattle.page_host.specs.Steps.{in_nodes}
use Rattle.page_meaning.specs.Act.{Calls}
use Rattle.page_meaning.specs.Calls.{calls_at}
use Rattle.page_meaning.specs.Events.{initialises}
use Rattle.page_meaning.specs.Functions.{global_variables}
use Rattle.page_meaning.specs.Pages.{at_element, do_event, document_node, run_all, with_input}
use Rattle.page_meaning.specs.Places.{window}
use Rattle.page_meaning.specs.Store.{Store}
use Rattle.page_meaning.specs.Tasks.{Fires, Name, Passes, Script, after_task, depth_limit, run_script, step_limit, task_of, top}
use Rattle.heap_relations.proofs.Callers.{larger_more, larger_same}
use Rattle.heap_relations.specs.Naming.{Larger, World, outermost, Itself}
use Rattle.heap_relations.specs.Related.{no_more, none, some, undefined}
use Rattle.host_relations.proofs.Callers as host
use Rattle.host_relations.proofs.Callers.{linked_up}
use Rattle.host_relations.specs.Hosts.{nodes_rel}
use Rattle.host_relations.specs.Linked.{Linked}
use Rattle.host_relations.specs.NodeSteps.{sets_value_rel}
use Rattle.page_meaning.specs.Places.{built_in_count}
use Rattle.agreement.specs.Acts as acts
use Rattle.agreement.specs.Acts.{AddedRel, Agrees, Equal, HasBuiltIns, StoreRel}
use Rattle.agreement.specs.Laws.{EventsAgree}
use Rattle.agreement.specs.Opened.{HasTrees, HereRel, opened_at, stmt_stands, stmts_stand, PageCallsRel}
use Rattle.agreement.proofs.Acts.{also_rel, bind_rel, on_built_ins, ret_rel}
use Rattle.agreement.proofs.SparedCalls.{page_calls_up}
use Rattle.agreement.proofs.Calling.{calls_at_rel}
use Rattle.agreement.proofs.EqualTrees.{trees_up}
use Rattle.agreement.proofs.Dispatching.{deliver_rel}
use Rattle.agreement.proofs.Ends.{LaterRel, finished_rel, with_line_rel}
use Rattle.agreement.proofs.EventSteps.{changes_event_rel, initialises_rel}
use Rattle.agreement.proofs.Functions.{declare_globals_rel, global_variables_rel, call_end_rel}
use Rattle.agreement.proofs.Heap.{named_up}
use Rattle.agreement.proofs.HostSteps.{host_changed}
use Rattle.agreement.proofs.Names.{here_up, read_global_rel}
use Rattle.agreement.proofs.NewNodes.{make_event_rel}
use Rattle.agreement.proofs.OnNodes.{FoundNode}
use Rattle.agreement.proofs.Statements.{exec_rel}
use Rattle.agreement.proofs.TimerRows.{pass_rel}
use Rattle.agreement.proofs.Values.{object_value_rel, done_rel}

-- ---- a task

pub window_place : window.0 ≤ built_in_count
window_place = omega arith

-- what stands round the top of a script
abbrev pub top_around : Bool → Around
top_around opens = around.top opens

pub top_fields : (opens : Bool) → (top_around opens).fields ≡ (λ x. opened_at opens Itself)
top_fields true = refl
top_fields false = refl

-- it unfolds, so that what is asked is seen
abbrev pub top_rel : {V : World} (trees : HasTrees V) → HasBuiltIns V → HereRel V (top_around trees.demand.opens) [] top top
top_rel trees there =
    record { trees = trees; opens = refl; fields = top_fields trees.demand.opens; own = λ e x. refl; round = outermost; ready = acts.outermost; this = object_value_rel window window (there window.0 window_place) }

-- the functions at the top of a script do nothing where they stand
tops_rel : {V : World} (c d : Calls) (k : Around) (n : ℕ) (a b : Here) (ss : tree.Stmts) → PageCallsRel V c d → (h : HereRel V k [] a b) → stmts_stand h.trees.demand n [] ss ≡ true
    → Agrees V (exec_all c a ss) (exec_all d b (open_tops k n ss))
tops_rel c d k n a b no_stmts calls h f = done_rel
tops_rel c d k n a b (then_stmt (function (code x formals body)) ss) calls h f =
    let s = function (code x formals body) in
    act_from _ (λ s m. refl) (act_as _ (λ t m. refl)
    (tops_rel c d k (n + stmt_scopes s) a b ss calls h (and_parts (stmt_stands h.trees.demand n [] s) (stmts_stand h.trees.demand (n + stmt_scopes s) [] ss) f).1))
tops_rel c d k n a b (then_stmt s ss) calls h f =
    let both = and_parts (stmt_stands h.trees.demand n [] s) (stmts_stand h.trees.demand (n + stmt_scopes s) [] ss) f in
    act_as _ (λ t m. append_run d b (open_stmt k n s) (open_tops k (n + stmt_scopes s) ss) t m)
    (also_dropped_rel _ _ (exec_rel c d k n [] a b s calls h both.0) (λ W l. tops_rel c d k (n + stmt_scopes s) a b ss (page_calls_up l calls) (here_up l h) both.1))

-- a script, and on the right the same opened
pub run_script_rel : {V : World} (c d : Calls) (n : ℕ) (body : tree.Stmts) → PageCallsRel V c d → (trees : HasTrees V)
    → stmts_stand trees.demand n [] body ≡ true → Agrees V (run_script c body) (run_script d (open_tops (top_around trees.demand.opens) n body))
run_script_rel c d n body calls trees f =
    let k = top_around trees.demand.opens in
    also_rel (declare_globals_rel body k n trees refl (top_fields trees.demand.opens) f) (λ W l v w r.
    also_rel (subst (λ xs. Agrees W (global_variables (variables_of body)) (global_variables xs)) (sym (tops_variables k n body (λ x. refl))) (global_variables_rel (variables_of body))) (λ X j x y q. on_built_ins (λ Y i there.
    let up = larger_more l (larger_more j i) in
    bind_rel (tops_rel c d k n top top body (page_calls_up up calls) (top_rel (trees_up up trees) there) f) (λ Z k s t e. ret_rel (λ S m. call_end_rel m e)))))

-- a call of what a global name holds
pub name_task_rel : {V : World} (c d : Calls) (x : List ℕ) → PageCallsRel V c d → Agrees V (task_of c (Name x)) (task_of d (Name x))
name_task_rel c d x calls = also_rel (read_global_rel top top x refl refl) (λ W l f g r. calls.calls.call W l r undefined no_more)

-- an event of the host at a node
pub fires_task_rel : {V : World} (c d : Calls) (x : List ℕ) (bubbles cancelable : Bool) (k l : NodeId) → PageCallsRel V c d → Linked V k.0 l.0
    → Agrees V (task_of c (Fires x bubbles cancelable k)) (task_of d (Fires x bubbles cancelable l))
fires_task_rel c d x bubbles cancelable k l calls i =
    bind_rel make_event_rel (λ W m e f n.
    bind_rel {R = Equal} (changes_event_rel e f {x = initialises x bubbles cancelable} {y = initialises x bubbles cancelable} n (λ X j. initialises_rel)) (λ X j u v q.
    let up = larger_more m j in
    deliver_rel c d e f k l (page_calls_up up calls).calls (named_up j n) (linked_up up i)))

-- time that passes
pub passes_task_rel : {V : World} (c d : Calls) (n : ℕ) → PageCallsRel V c d → Agrees V (task_of c (Passes n)) (task_of d (Passes n))
passes_task_rel c d n calls = pass_rel c d n calls.calls

pub after_script_rel : {V : World} {s t : Store} (n : ℕ) (body : tree.Stmts) → (trees : HasTrees V) → stmts_stand trees.demand n [] body ≡ true → StoreRel V s t
    → LaterRel V (after_task (Script body) s) (after_task (Script (open_tops (top_around trees.demand.opens) n body)) t)
after_script_rel {s = s} {t = t} n body trees f g =
    let calls = calls_at depth_limit in
    finished_rel ((run_script_rel calls calls n body (calls_at_rel depth_limit trees) trees f).run _ larger_same s t step_limit g)

pub after_name_rel : {V : World} {s t : Store} (x : List ℕ) → HasTrees V → StoreRel V s t → LaterRel V (after_task (Name x) s) (after_task (Name x) t)
after_name_rel {s = s} {t = t} x trees g =
    let calls = calls_at depth_limit in
    finished_rel ((name_task_rel calls calls x (calls_at_rel depth_limit trees)).run _ larger_same s t step_limit g)

pub after_fires_rel : {V : World} {s t : Store} (x : List ℕ) (bubbles cancelable : Bool) (k l : NodeId) → HasTrees V → Linked V k.0 l.0 → StoreRel V s t
    → LaterRel V (after_task (Fires x bubbles cancelable k) s) (after_task (Fires x bubbles cancelable l) t)
after_fires_rel {s = s} {t = t} x bubbles cancelable k l trees i g =
    let calls = calls_at depth_limit in
    finished_rel ((fires_task_rel calls calls x bubbles cancelable k l (calls_at_rel depth_limit trees) i).run _ larger_same s t step_limit g)

pub after_passes_rel : {V : World} {s t : Store} (n : ℕ) → HasTrees V → StoreRel V s t → LaterRel V (after_task (Passes n) s) (after_task (Passes n) t)
after_passes_rel {s = s} {t = t} n trees g =
    let calls = calls_at depth_limit in
    finished_rel ((passes_task_rel calls calls n (calls_at_rel depth_limit trees)).run _ larger_same s t step_limit g)

-- ---- events

pub at_once : {V : World} {s t : Store} → StoreRel V s t → LaterRel V s t
at_once {V = V} g = record { world = V; larger = larger_same; stores = g }

-- the same line, where there is no such element
at_element_rel : {V : World} {s t : Store} {o p : Option NodeId} (f h : NodeId → Store → Store) → FoundNode V o p → StoreRel V s t
    → ((k l : NodeId) → Linked V k.0 l.0 → LaterRel V (f k s) (h l t)) → LaterRel V (at_element o f s) (at_element p h t)
at_element_rel f h none g r = at_once (with_line_rel NoElement g refl)
at_element_rel f h (some {a = k} {b = l} i) g r = r k l i.linked

pub do_event_rel : {V : World} {s t : Store} (e : Event) → HasTrees V → StoreRel V s t → LaterRel V (do_event e s) (do_event e t)
do_event_rel (event.Call f) trees g = after_name_rel f trees g
do_event_rel (event.Fire x id bubbles cancelable) trees g = at_element_rel _ _ (host.ids_found g.host id) g (λ k l i. after_fires_rel x bubbles cancelable k l trees i g)
do_event_rel {s = s} {t = t} (event.Input x id) trees g =
    at_element_rel _ _ (host.ids_found g.host id) g (λ k l i.
    after_fires_rel {s = with_input x k s} {t = with_input x l t} (codes "input") true false k l trees i (host_changed g {x = in_nodes (sets_value k x)} {y = in_nodes (sets_value l x)} (nodes_rel (sets_value_rel i))))
do_event_rel (event.Tick n) trees g = after_passes_rel n trees g
do_event_rel event.Dom trees g = at_once (with_line_rel Dom g (host.node_read g.host {k = document_node} {l = document_node} g.host.nodes.document).text)

pub later_up : {V W : World} {s t : Store} → Larger V W → LaterRel W s t → LaterRel V s t
later_up l h = record { world = h.world; larger = larger_more l h.larger; stores = h.stores }

pub run_all_rel : {V : World} {s t : Store} (es : List Event) → HasTrees V → StoreRel V s t → LaterRel V (run_all s es) (run_all t es)
run_all_rel [] trees g = at_once g
run_all_rel {V = V} {s = s} {t = t} (e ∷ es) trees g =
    let one = do_event_rel e trees g in
    later_up one.larger (run_all_rel {V = one.world} {s = do_event e s} {t = do_event e t} es (trees_up one.larger trees) one.stores)

passed : (b m n : List Line) → drop (length (b ++ m)) (b ++ n) ≡ drop (length m) n
passed [] m n = refl
passed (x ∷ b) m n = passed b m n

added : (b m n xs ys : List Line) → xs ≡ b ++ m → ys ≡ b ++ n → drop (length xs) ys ≡ drop (length m) n
added b m n xs ys e f = ap (λ zs. drop (length zs) ys) e ∙ ap (λ zs. drop (length (b ++ m)) zs) f ∙ passed b m n

pub events_agree : EventsAgree
events_agree W s t es trees g =
    let after = run_all_rel es (equal_trees trees) g in
    let lines = subst (λ b. AddedRel b (run_all s es).lines (run_all t es).lines) (sym after.larger.before) after.stores.lines in
    added W.before.one g.lines.more lines.more s.lines (run_all s es).lines g.lines.one lines.one
    ∙ sym (added W.before.two g.lines.more lines.more t.lines (run_all t es).lines g.lines.two lines.two)
