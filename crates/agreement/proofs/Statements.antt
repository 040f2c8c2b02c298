-- What a statement does (section 12), for both pages.
use Rattle.std.proofs.Common.{◌≡◌, ap, ◌∙◌, bytes_eq, [], ℕ, ◌&&◌, true, List, ◌∷◌, refl, sym, subst, ◌+◌, ◌||◌, Bool, false, Option, Some, None, is_some, if◌then◌else◌, not}
use Rattle.js_values.specs.declared.value.Value.TheVariants.{Undefined}
use Rattle.page_meaning.specs.Expressions.{eval_each}
use Rattle.instrumenter.specs.Opening.{open_cases, open_catch, open_declarators, open_init, open_maybe, open_maybe_body, open_stmt, open_stmts, open_expr}
use Rattle.instrumenter.specs.Fields.{clause_fields}
use Rattle.instrumenter.specs.Counting.{expr_scopes, stmt_scopes, catch_scopes, init_scopes, maybe_expr_scopes, stmts_scopes}
use Rattle.instrumenter.specs.Around.{Around, as_init, as_statements, assignments, in_clause, is_changed, next_number, opened_clause, opened_fields, opened_var, plain_names, single, var_where_any, append, before_for, before_for_in, target_is_field}
use Rattle.agreement.proofs.Dropped.{Drops, act_as, act_from, also_dropped_rel, append_run, before_for_in_run, before_for_run, both_drop_rel, dropped_rel, gives_drop, gives_rel, init_run, single_rel, two_drops_rel, var_where_run}
use Rattle.agreement.proofs.EqualTrees.{trees_up}
use Rattle.agreement.proofs.Clauses.{clause_around, clause_rel, clause_shape}
use Rattle.agreement.proofs.Closures.{among_same}
use Rattle.agreement.proofs.Entries.{one_name_same, plain_frame}
use Rattle.agreement.proofs.FirstSets.{first_set}
use Rattle.agreement.proofs.FirstStatements.{first_statement_rel}
use Rattle.agreement.proofs.Unset.{unset_clause}
use Rattle.agreement.proofs.Unopened.{IsClosed, closed_clause, stmts_same}
use Rattle.agreement.proofs.Targets.{declare_rel, declare_same_rel, target_at}
use Rattle.std.proofs.lemmas.Bool.{and_parts, or_parts}
use Rattle.js_core.specs.Tree as tree
use Rattle.js_core.specs.Tree.{var, function, expr, empty, block, if_else, do_while, while, for, for_in, throw, try, switch, no_expr, one_expr, no_stmts, then_stmt, no_body, one_body, no_declarators, then_declarator, no_init, init_var, init_expr, no_catch, one_catch, no_cases, then_case}
use Rattle.js_values.specs.declared.value.Value.{Value}
use Rattle.page_meaning.specs.Act.{Act, Calls, ret, done}
use Rattle.page_meaning.specs.Names.{Here, in_scope}
use Rattle.scope_analysis.specs.Names.{is_among}
use Rattle.std.proofs.lemmas.Slice.Eq.{bytes_eq-Decides}
use Rattle.page_meaning.specs.Statements.{eval_maybe, exec, exec_all, exec_body, exec_cases, exec_catch, exec_declarators, exec_init, exec_last, exec_through, last_signal, unbroken}
use Rattle.page_meaning.specs.declared.signal.Signal.{Signal}
use Rattle.page_meaning.specs.declared.signal.Signal.TheVariants as signal
use Rattle.heap_relations.proofs.Callers.{larger_more}
use Rattle.heap_relations.specs.Naming.{Frame, Larger, named, resolve, Round, World}
use Rattle.heap_relations.specs.Related.{ValueRel, entry, no_entries, truth, undefined}
use Rattle.agreement.specs.Acts.{Agrees, SignalRel, break, continue, return, thrown, value as given}
use Rattle.agreement.specs.Opened.{Demand, HasTrees, begins_with_set, opened_at, rest_stands, scope_frame, HereRel, cases_stand, catch_stands, clause_frame, clause_may_open, declarator_stands, declarators_stand, expr_stands, init_stands, maybe_body_stands, maybe_stands, name_stands, stmt_stands, stmts_stand, target_stands, PageCallsRel}
use Rattle.agreement.proofs.Acts.{act_up, also_rel, asking_rel, bind_rel, choose_rel, on_one_to_one, ret_rel}
use Rattle.agreement.proofs.Spared.{either_way}
use Rattle.agreement.proofs.SparedCalls.{page_calls_up}
use Rattle.agreement.proofs.Expressions.{assign_to_rel, eval_rel}
use Rattle.agreement.proofs.Heap.{value_up}
use Rattle.agreement.proofs.Loops.{ListedRel, each_name_rel, listed_of_rel, loop_rel, turn_rel}
use Rattle.agreement.proofs.Names.{here_up}
use Rattle.agreement.proofs.Operators.{is_true_same, same_of_same}
use Rattle.agreement.proofs.Values.{done_rel, give_rel}

-- ---- ends

pub signal_up : {V W : World} {s t : Signal} → Larger V W → SignalRel V s t → SignalRel W s t
signal_up l (given r) = given (value_up l r)
signal_up l (thrown r) = thrown (value_up l r)
signal_up l (return r) = return (value_up l r)
signal_up l break = break
signal_up l continue = continue

pub end_rel : {V : World} {s t : Signal} → SignalRel V s t → Agrees V (ret s) (ret t)
end_rel r = ret_rel (λ W l. signal_up l r)

pub last_signal_rel : {V : World} {s t p q : Signal} → SignalRel V s t → SignalRel V p q → SignalRel V (last_signal s p) (last_signal t q)
last_signal_rel h (given r) = h
last_signal_rel h (thrown r) = thrown r
last_signal_rel h (return r) = return r
last_signal_rel h break = break
last_signal_rel h continue = continue

pub unbroken_rel : {V : World} {s t : Signal} → SignalRel V s t → SignalRel V (unbroken s) (unbroken t)
unbroken_rel (given r) = given r
unbroken_rel (thrown r) = thrown r
unbroken_rel (return r) = return r
unbroken_rel break = given undefined
unbroken_rel continue = continue

-- ---- declarations

pub eval_maybe_rel : {V : World} {v w : Value} (c d : Calls) (around : Around) (n : ℕ) (fs : List Frame) (a b : Here) (e : tree.MaybeExpr) → PageCallsRel V c d
    → (h : HereRel V around fs a b) → maybe_stands h.trees.demand n fs e ≡ true → ValueRel (named V) v w
    → Agrees V (eval_maybe c a e v) (eval_maybe d b (open_maybe around n e) w)
eval_maybe_rel c d around n fs a b no_expr calls h f r = give_rel r
eval_maybe_rel c d around n fs a b (one_expr e) calls h f r = eval_rel c d around n fs a b e calls h f

not_some : (o : Option ℕ) → is_some o ≡ false → o ≡ None
not_some None e = refl
not_some (Some m) e = absurd (cc e)

-- as assignments, one after another
as_statements_rel : {V : World} (c d : Calls) (around : Around) (n : ℕ) (fs : List Frame) (a b : Here) (ds : tree.Declarators) → PageCallsRel V c d
    → (h : HereRel V around fs a b) → declarators_stand h.trees.demand n fs ds ≡ true
    → Drops V (exec_declarators c a ds) (exec_all d b (as_statements (assignments around (open_declarators around n ds))))
as_statements_rel c d around n fs a b no_declarators calls h f = dropped_rel done_rel
as_statements_rel c d around n fs a b (then_declarator x no_expr ds) calls h f = act_from _ (λ s m. refl) (as_statements_rel c d around (n + 0) fs a b ds calls h f)
as_statements_rel c d around n fs a b (then_declarator x (one_expr e) ds) calls h f =
    let both = and_parts (declarator_stands h.trees.demand n fs x (one_expr e)) (declarators_stand h.trees.demand (n + expr_scopes e) fs ds) f in
    let one = and_parts (name_stands h.trees.demand true fs x) (expr_stands h.trees.demand n fs e) both.0 in
    let first = declare_rel c d around fs a b x h one.0 e (open_expr around n e) (target_at c d around fs a b x h one.0) (eval_rel c d around n fs a b e calls h one.1) in
    both_drop_rel _ _ (gives_rel Undefined first) (λ W l. as_statements_rel c d around (n + expr_scopes e) fs a b ds (page_calls_up l calls) (here_up l h) both.1)

-- as parts of one expression
as_parts_rel : {V : World} (c d : Calls) (around : Around) (n : ℕ) (fs : List Frame) (a b : Here) (ds : tree.Declarators) (v : Value) → PageCallsRel V c d
    → (h : HereRel V around fs a b) → declarators_stand h.trees.demand n fs ds ≡ true
    → Drops V (exec_declarators c a ds) (eval_each d b (assignments around (open_declarators around n ds)) v)
as_parts_rel c d around n fs a b no_declarators v calls h f = gives_drop v
as_parts_rel c d around n fs a b (then_declarator x no_expr ds) v calls h f = act_from _ (λ s m. refl) (as_parts_rel c d around (n + 0) fs a b ds v calls h f)
as_parts_rel c d around n fs a b (then_declarator x (one_expr e) ds) v calls h f =
    let both = and_parts (declarator_stands h.trees.demand n fs x (one_expr e)) (declarators_stand h.trees.demand (n + expr_scopes e) fs ds) f in
    let one = and_parts (name_stands h.trees.demand true fs x) (expr_stands h.trees.demand n fs e) both.0 in
    let first = declare_rel c d around fs a b x h one.0 e (open_expr around n e) (target_at c d around fs a b x h one.0) (eval_rel c d around n fs a b e calls h one.1) in
    two_drops_rel _ _ first (λ W l w. as_parts_rel c d around (n + expr_scopes e) fs a b ds w (page_calls_up l calls) (here_up l h) both.1)

-- where nothing is changed, as they are
exec_declarators_rel : {V : World} (c d : Calls) (around : Around) (n : ℕ) (fs : List Frame) (a b : Here) (ds : tree.Declarators) → PageCallsRel V c d
    → (h : HereRel V around fs a b) → declarators_stand h.trees.demand n fs ds ≡ true → is_changed around ds ≡ false
    → Agrees V (exec_declarators c a ds) (exec_declarators d b (open_declarators around n ds))
exec_declarators_rel c d around n fs a b no_declarators calls h f same = done_rel
exec_declarators_rel c d around n fs a b (then_declarator x no_expr ds) calls h f same =
    act_from _ (λ s m. refl) (act_as _ (λ t m. refl) (exec_declarators_rel c d around (n + 0) fs a b ds calls h f (or_parts (around.own x) (is_changed around ds) same).1))
exec_declarators_rel c d around n fs a b (then_declarator x (one_expr e) ds) calls h f same =
    let both = and_parts (declarator_stands h.trees.demand n fs x (one_expr e)) (declarators_stand h.trees.demand (n + expr_scopes e) fs ds) f in
    let one = and_parts (name_stands h.trees.demand true fs x) (expr_stands h.trees.demand n fs e) both.0 in
    let rest = (or_parts (around.own x) (is_some (around.fields x) || is_changed around ds) same).1 in
    let last = or_parts (is_some (around.fields x)) (is_changed around ds) rest in
    also_rel (declare_same_rel c d around fs a b x h one.0 e (open_expr around n e) (target_at c d around fs a b x h one.0) (not_some (around.fields x) last.0) (eval_rel c d around n fs a b e calls h one.1))
    (λ W l v w r. exec_declarators_rel c d around (n + expr_scopes e) fs a b ds (page_calls_up l calls) (here_up l h) both.1 last.1)

var_rel : {V : World} (c d : Calls) (around : Around) (n : ℕ) (fs : List Frame) (a b : Here) (ds : tree.Declarators) → PageCallsRel V c d
    → (h : HereRel V around fs a b) → declarators_stand h.trees.demand n fs ds ≡ true
    → Drops V (exec_declarators c a ds) (exec_all d b (opened_var around ds (open_declarators around n ds)))
var_rel {V = V} c d around n fs a b ds calls h f = by_case (is_changed around ds) refl
  where
    by_case : (o : Bool) → is_changed around ds ≡ o
        → Drops V (exec_declarators c a ds)
        (exec_all d b (if o then var_where_any (plain_names around ds) (as_statements (assignments around (open_declarators around n ds))) else single (var (open_declarators around n ds))))
    by_case true e = act_as _ (λ t m. var_where_run d b around ds _ t m) (as_statements_rel c d around n fs a b ds calls h f)
    by_case false e = single_rel d b (var (open_declarators around n ds)) (exec_declarators_rel c d around n fs a b ds calls h f e)

exec_init_rel : {V : World} (c d : Calls) (around : Around) (n : ℕ) (fs : List Frame) (a b : Here) (i : tree.ForInit) → PageCallsRel V c d → (h : HereRel V around fs a b)
    → init_stands h.trees.demand n fs i ≡ true → Drops V (exec_init c a i) (exec_init d b (open_init around n i))
exec_init_rel c d around n fs a b no_init calls h f = dropped_rel done_rel
exec_init_rel c d around n fs a b (init_expr e) calls h f = dropped_rel (eval_rel c d around n fs a b e calls h f)
exec_init_rel {V = V} c d around n fs a b (init_var ds) calls h f = by_case (is_changed around ds) refl
  where
    by_case : (o : Bool) → is_changed around ds ≡ o
        → Drops V (exec_declarators c a ds) (exec_init d b (if o then as_init (assignments around (open_declarators around n ds)) else init_var (open_declarators around n ds)))
    by_case true e = act_as _ (λ t m. init_run d b (assignments around (open_declarators around n ds)) t m) (as_parts_rel c d around n fs a b ds Undefined calls h f)
    by_case false e = dropped_rel (exec_declarators_rel c d around n fs a b ds calls h f e)

-- a declaration of a function does nothing where it stands
function_rel : {V : World} (d : Calls) (b : Here) (o : Bool) (k : tree.Code) → Drops V done (exec_all d b (if o then no_stmts else single (function k)))
function_rel d b true k = dropped_rel done_rel
function_rel d b false k = single_rel d b (function k) done_rel

-- ---- statements

-- no parameter is boxed where trees are opened
boxed_closed : {W : World} (trees : HasTrees W) {x : List ℕ} {ss : tree.Stmts} → trees.demand.boxes x ss ≡ true → trees.demand.opens ≡ false
boxed_closed trees {x = x} {ss = ss} is = by_case trees.demand.opens refl
  where
    by_case : (b : Bool) → trees.demand.opens ≡ b → b ≡ false
    by_case false e = refl
    by_case true e = let wrong : true ≡ false = sym is ∙ ap (λ (d : Demand). d.boxes x ss) (trees.opening e) in absurd (cc wrong)

mutual
  pub exec_rel : {V : World} (c d : Calls) (around : Around) (n : ℕ) (fs : List Frame) (a b : Here) (s : tree.Stmt) → PageCallsRel V c d → (h : HereRel V around fs a b)
      → stmt_stands h.trees.demand n fs s ≡ true → Drops V (exec c a s) (exec_all d b (open_stmt around n s))
  exec_rel c d around n fs a b (var ds) calls h f = var_rel c d around n fs a b ds calls h f
  exec_rel c d around n fs a b (function k) calls h f = function_rel d b around.opens k
  exec_rel c d around n fs a b (expr e) calls h f =
      single_rel d b (expr (open_expr around n e)) (also_rel (eval_rel c d around n fs a b e calls h f) (λ W l v w r. done_rel))
  exec_rel c d around n fs a b empty calls h f = single_rel d b empty done_rel
  exec_rel c d around n fs a b (block ss) calls h f = single_rel d b (block (open_stmts around n ss)) (exec_all_rel c d around n fs a b ss calls h f)
  exec_rel c d around n fs a b (if_else e p q) calls h f =
      let D = h.trees.demand in
      let m = n + expr_scopes e in
      let k = m + stmts_scopes p in
      let one = and_parts (expr_stands D n fs e) (stmts_stand D m fs p && maybe_body_stands D k fs q) f in
      let two = and_parts (stmts_stand D m fs p) (maybe_body_stands D k fs q) one.1 in
      single_rel d b (if_else (open_expr around n e) (open_stmts around m p) (open_maybe_body around k q))
      (also_rel (eval_rel c d around n fs a b e calls h one.0) (λ W l v w r. choose_rel _ _ (is_true_same r)
      (exec_all_rel c d around m fs a b p (page_calls_up l calls) (here_up l h) two.0)
      (exec_body_rel c d around k fs a b q (page_calls_up l calls) (here_up l h) two.1)))
  exec_rel c d around n fs a b (do_while body e) calls h f =
      let m = n + stmts_scopes body in
      let both = and_parts (stmts_stand h.trees.demand n fs body) (expr_stands h.trees.demand m fs e) f in
      let once = exec_all_rel c d around n fs a b body calls h both.0 in
      single_rel d b (do_while (open_stmts around n body) (open_expr around m e)) (turn_rel once (loop_rel (eval_rel c d around m fs a b e calls h both.1) once done_rel))
  exec_rel c d around n fs a b (while e body) calls h f =
      let m = n + expr_scopes e in
      let both = and_parts (expr_stands h.trees.demand n fs e) (stmts_stand h.trees.demand m fs body) f in
      single_rel d b (while (open_expr around n e) (open_stmts around m body))
      (loop_rel (eval_rel c d around n fs a b e calls h both.0) (exec_all_rel c d around m fs a b body calls h both.1) done_rel)
  exec_rel c d around n fs a b (for i t last body) calls h f =
      let D = h.trees.demand in
      let m = n + init_scopes i in
      let k = m + maybe_expr_scopes t in
      let o = k + maybe_expr_scopes last in
      let one = and_parts (init_stands D n fs i) (maybe_stands D m fs t && (maybe_stands D k fs last && stmts_stand D o fs body)) f in
      let two = and_parts (maybe_stands D m fs t) (maybe_stands D k fs last && stmts_stand D o fs body) one.1 in
      let three = and_parts (maybe_stands D k fs last) (stmts_stand D o fs body) two.1 in
      let s = for (open_init around n i) (open_maybe around m t) (open_maybe around k last) (open_stmts around o body) in
      act_as (exec_all d b (before_for around i (single s))) (λ u g. before_for_run d b around i (single s) u g)
      (single_rel d b s (also_dropped_rel _ _ (exec_init_rel c d around n fs a b i calls h one.0) (λ W l. loop_rel
      (eval_maybe_rel c d around m fs a b t (page_calls_up l calls) (here_up l h) two.0 truth)
      (exec_all_rel c d around o fs a b body (page_calls_up l calls) (here_up l h) three.1)
      (eval_maybe_rel c d around k fs a b last (page_calls_up l calls) (here_up l h) three.0 undefined))))
  exec_rel c d around n fs a b (for_in declared t e body) calls h f =
      let D = h.trees.demand in
      let m = n + expr_scopes t in
      let o = m + expr_scopes e in
      let one = and_parts (target_stands D fs t (expr_stands D n fs t)) (expr_stands D m fs e && stmts_stand D o fs body) f in
      let two = and_parts (expr_stands D m fs e) (stmts_stand D o fs body) one.1 in
      let s = for_in (declared && not (target_is_field around t)) (open_expr around n t) (open_expr around m e) (open_stmts around o body) in
      act_as (exec_all d b (before_for_in around declared t (single s))) (λ u g. before_for_in_run d b around declared t (single s) u g)
      (single_rel d b s (also_rel (eval_rel c d around m fs a b e calls h two.0) (λ W l v w r. asking_rel {R = ListedRel} (λ X j s u g. listed_of_rel g (value_up j r))
      (λ X j xs ys q. each_name_rel (λ Y k x y q. assign_to_rel c d around n fs a b t (page_calls_up (larger_more l (larger_more j k)) calls) (here_up (larger_more l (larger_more j k)) h) one.0 q)
      (exec_all_rel c d around o fs a b body (page_calls_up (larger_more l j) calls) (here_up (larger_more l j) h) two.1) q))))
  exec_rel c d around n fs a b tree.continue calls h f = single_rel d b tree.continue (end_rel continue)
  exec_rel c d around n fs a b tree.break calls h f = single_rel d b tree.break (end_rel break)
  exec_rel c d around n fs a b (tree.return e) calls h f =
      single_rel d b (tree.return (open_maybe around n e)) (also_rel (eval_maybe_rel c d around n fs a b e calls h f undefined) (λ W l v w r. end_rel (return r)))
  exec_rel c d around n fs a b (throw e) calls h f =
      single_rel d b (throw (open_expr around n e)) (also_rel (eval_rel c d around n fs a b e calls h f) (λ W l v w r. end_rel (thrown r)))
  exec_rel c d around n fs a b (try p k last) calls h f =
      let D = h.trees.demand in
      let m = n + stmts_scopes p in
      let o = m + catch_scopes k in
      let one = and_parts (stmts_stand D n fs p) (catch_stands D m fs k && maybe_body_stands D o fs last) f in
      let two = and_parts (catch_stands D m fs k) (maybe_body_stands D o fs last) one.1 in
      single_rel d b (try (open_stmts around n p) (open_catch around m k) (open_maybe_body around o last))
      (bind_rel (exec_all_rel c d around n fs a b p calls h one.0) (λ W l s t r. bind_rel (exec_catch_rel c d around m fs a b k s t (page_calls_up l calls) (here_up l h) two.0 r)
      (λ X j u v q. exec_last_rel c d around o fs a b last u v (page_calls_up (larger_more l j) calls) (here_up (larger_more l j) h) two.1 q)))
  exec_rel c d around n fs a b (switch e cs) calls h f =
      let m = n + expr_scopes e in
      let both = and_parts (expr_stands h.trees.demand n fs e) (cases_stand h.trees.demand m fs cs) f in
      single_rel d b (switch (open_expr around n e) (open_cases around m cs))
      (also_rel (eval_rel c d around n fs a b e calls h both.0) (λ W l v w r. bind_rel (exec_cases_rel c d around m fs a b cs v w _ _ (page_calls_up l calls) (here_up l h) both.1 r done_rel)
      (λ X j s t q. end_rel (unbroken_rel q))))

  pub exec_all_rel : {V : World} (c d : Calls) (around : Around) (n : ℕ) (fs : List Frame) (a b : Here) (ss : tree.Stmts) → PageCallsRel V c d → (h : HereRel V around fs a b)
      → stmts_stand h.trees.demand n fs ss ≡ true → Agrees V (exec_all c a ss) (exec_all d b (open_stmts around n ss))
  exec_all_rel c d around n fs a b no_stmts calls h f = done_rel
  exec_all_rel c d around n fs a b (then_stmt s ss) calls h f =
      let both = and_parts (stmt_stands h.trees.demand n fs s) (stmts_stand h.trees.demand (n + stmt_scopes s) fs ss) f in
      act_as (exec_all d b (append (open_stmt around n s) (open_stmts around (n + stmt_scopes s) ss))) (λ t m. append_run d b (open_stmt around n s) (open_stmts around (n + stmt_scopes s) ss) t m)
      (also_dropped_rel _ _ (exec_rel c d around n fs a b s calls h both.0) (λ W l. exec_all_rel c d around (n + stmt_scopes s) fs a b ss (page_calls_up l calls) (here_up l h) both.1))

  pub exec_body_rel : {V : World} (c d : Calls) (around : Around) (n : ℕ) (fs : List Frame) (a b : Here) (ss : tree.MaybeStmts) → PageCallsRel V c d → (h : HereRel V around fs a b)
      → maybe_body_stands h.trees.demand n fs ss ≡ true
      → Agrees V (exec_body c a ss) (exec_body d b (open_maybe_body around n ss))
  exec_body_rel c d around n fs a b no_body calls h f = done_rel
  exec_body_rel c d around n fs a b (one_body ss) calls h f = exec_all_rel c d around n fs a b ss calls h f

  pub exec_catch_rel : {V : World} (c d : Calls) (around : Around) (n : ℕ) (fs : List Frame) (a b : Here) (k : tree.MaybeCatch) (s t : Signal) → PageCallsRel V c d
      → (h : HereRel V around fs a b) → catch_stands h.trees.demand n fs k ≡ true → SignalRel V s t
      → Agrees V (exec_catch c a k s) (exec_catch d b (open_catch around n k) t)
  exec_catch_rel c d around n fs a b no_catch s t calls h f r = end_rel r
  exec_catch_rel c d around n fs a b (one_catch x ss) _ _ calls h f (given r) = end_rel (given r)
  exec_catch_rel c d around n fs a b (one_catch x ss) _ _ calls h f (return r) = end_rel (return r)
  exec_catch_rel c d around n fs a b (one_catch x ss) _ _ calls h f break = end_rel break
  exec_catch_rel c d around n fs a b (one_catch x ss) _ _ calls h f continue = end_rel continue
  exec_catch_rel {V = V} c d around n fs a b (one_catch x ss) _ _ calls h f (thrown {v = v} {w = w} r) =
      let opens = h.trees.demand.opens in
      let F = opened_fields opens (clause_fields x ss) in
      let D = h.trees.demand in
      let frame = clause_frame D F n x ss in
      let boxed : Bool = begins_with_set (bytes_eq x) ss && rest_stands D (next_number F n) (frame ∷ fs) ss in
      let plain : Bool = stmts_stand D (next_number F n) (frame ∷ fs) ss in
      let both = and_parts (clause_may_open opens n fs F x) (if D.boxes x ss then boxed else plain) f in
      subst (λ o. Agrees V (exec_catch c a (one_catch x ss) (signal.Thrown v)) (exec_catch d b (opened_clause n (opened_fields o (clause_fields x ss)) x
      (open_stmts (in_clause around n (opened_fields o (clause_fields x ss)) x) (next_number (opened_fields o (clause_fields x ss)) n) ss)) (signal.Thrown w))) (sym h.opens)
      (either_way (D.boxes x ss)
      (λ is.
      let two = and_parts (begins_with_set (bytes_eq x) ss) (rest_stands D (next_number F n) (frame ∷ fs) ss) (subst (λ t. (if t then boxed else plain) ≡ true) is both.1) in
      exec_boxed_rel c d around n fs a b x ss calls h (boxed_closed h.trees is) is two.0 two.1 r)
      (λ is.
      let same : frame ≡ unset_clause F n x = ap (λ z. scope_frame F n (λ y. is_among y (x ∷ [])) (λ y. z)) is in
      clause_rel c d n fs a b x opens ss _ F (clause_shape opens x ss) h.trees.opens h.round h.ready h.this both.0 r (λ W l g i o ready this.
      exec_all_rel c d (in_clause around n F x) (next_number F n) (frame ∷ fs) g i ss (page_calls_up l calls)
      (record {
        trees = trees_up l h.trees;
        opens = h.opens;
        fields = clause_around around n fs a b x ss h;
        own = h.own;
        round = subst (λ z. Round W (z ∷ fs) g.env i.env) (sym same) o;
        ready = ready;
        this = this;
      }) (subst (λ t. (if t then boxed else plain) ≡ true) is both.1))))

  -- a clause whose parameter is boxed, where nothing is opened
  exec_boxed_rel : {V : World} {v w : Value} (c d : Calls) (around : Around) (n : ℕ) (fs : List Frame) (a b : Here) (x : List ℕ) (ss : tree.Stmts) → PageCallsRel V c d
      → (h : HereRel V around fs a b) → h.trees.demand.opens ≡ false → h.trees.demand.boxes x ss ≡ true → begins_with_set (bytes_eq x) ss ≡ true
      → rest_stands h.trees.demand (next_number (opened_fields h.trees.demand.opens (clause_fields x ss)) n) (clause_frame h.trees.demand (opened_fields h.trees.demand.opens (clause_fields x ss)) n x ss ∷ fs) ss ≡ true
      → ValueRel (named V) v w
      → Agrees V (exec_catch c a (one_catch x ss) (signal.Thrown v))
      (exec_catch d b (opened_clause n (opened_fields h.trees.demand.opens (clause_fields x ss)) x (open_stmts (in_clause around n (opened_fields h.trees.demand.opens (clause_fields x ss)) x) (next_number (opened_fields h.trees.demand.opens (clause_fields x ss)) n) ss)) (signal.Thrown w))
  exec_boxed_rel c d around n fs a b x no_stmts calls h shut is first stands r = absurd (cc first)
  exec_boxed_rel {V = V} {v = v} {w = w} c d around n fs a b x (then_stmt s us) calls h shut is first stands r =
      let D = h.trees.demand in
      let ss = then_stmt s us in
      let frame = plain_frame (λ y. is_among y (x ∷ [])) (λ y. D.boxes x ss) in
      let inside = in_clause around n [] x in
      let fields_none : opened_fields D.opens (clause_fields x ss) ≡ [] = ap (λ o. opened_fields o (clause_fields x ss)) shut in
      let none : IsClosed inside = closed_clause n x (record { opens = h.opens ∙ shut; fields = λ y. ap (λ f. f y) h.fields ∙ ap (λ o. opened_at o (resolve fs y)) shut; own = h.own shut }) in
      let k = first_set (bytes_eq x) D n (frame ∷ fs) s us first (subst (λ F. rest_stands D (next_number F n) (clause_frame D F n x ss ∷ fs) ss ≡ true) fields_none stands) in
      let same : x ≡ k.name = (bytes_eq-Decides x k.name).0 k.constant_name in
      let names_same = subst (λ F. (in_clause around n F x).fields ≡ (λ y. opened_at D.opens (resolve (clause_frame D F n x ss ∷ fs) y))) fields_none (clause_around around n fs a b x ss h) in
      let both = first_statement_rel (λ y. is_among y (x ∷ [])) (λ y. D.boxes x ss) k.name (ap (λ y. is_among y (x ∷ [])) (sym same) ∙ ap (λ t. t || false) (among_same x)) is fs c d a.this b.this D n k.fields s us k.begins shut (h.trees.opens ∙ shut) k.plain k.stands
      (λ X more p q o ready. subst (λ ts. Agrees X (exec_all c (in_scope a p) us) (exec_all d (in_scope b q) ts)) (stmts_same (n + stmt_scopes s) us none)
      (exec_all_rel c d inside (n + stmt_scopes s) (frame ∷ fs) (in_scope a p) (in_scope b q) us (page_calls_up more calls)
      (record { trees = trees_up more h.trees; opens = h.opens; fields = names_same; own = h.own; round = o; ready = ready; this = value_up more h.this }) k.goes_on))
      a.env b.env ((x, v) ∷ []) ((x, w) ∷ []) h.round h.ready (entry r no_entries) (one_name_same x v)
      in
      subst (λ F. Agrees V (exec_catch c a (one_catch x ss) (signal.Thrown v)) (exec_catch d b (opened_clause n F x (open_stmts (in_clause around n F x) (next_number F n) ss)) (signal.Thrown w))) (sym fields_none)
      (subst (λ ts. Agrees V (exec_catch c a (one_catch x ss) (signal.Thrown v)) (exec_catch d b (one_catch x ts) (signal.Thrown w))) (sym (stmts_same n ss none)) both)

  pub exec_last_rel : {V : World} (c d : Calls) (around : Around) (n : ℕ) (fs : List Frame) (a b : Here) (ss : tree.MaybeStmts) (s t : Signal) → PageCallsRel V c d
      → (h : HereRel V around fs a b) → maybe_body_stands h.trees.demand n fs ss ≡ true → SignalRel V s t
      → Agrees V (exec_last c a ss s) (exec_last d b (open_maybe_body around n ss) t)
  exec_last_rel c d around n fs a b no_body s t calls h f r = end_rel r
  exec_last_rel c d around n fs a b (one_body ss) s t calls h f r = bind_rel (exec_all_rel c d around n fs a b ss calls h f) (λ W l u v q. end_rel (last_signal_rel (signal_up l r) q))

  pub exec_through_rel : {V : World} (c d : Calls) (around : Around) (n : ℕ) (fs : List Frame) (a b : Here) (cs : tree.Cases) → PageCallsRel V c d → (h : HereRel V around fs a b)
      → cases_stand h.trees.demand n fs cs ≡ true
      → Agrees V (exec_through c a cs) (exec_through d b (open_cases around n cs))
  exec_through_rel c d around n fs a b no_cases calls h f = done_rel
  exec_through_rel c d around n fs a b (then_case e ss cs) calls h f =
      let D = h.trees.demand in
      let m = n + maybe_expr_scopes e in
      let o = m + stmts_scopes ss in
      let one = and_parts (maybe_stands D n fs e) (stmts_stand D m fs ss && cases_stand D o fs cs) f in
      let two = and_parts (stmts_stand D m fs ss) (cases_stand D o fs cs) one.1 in
      also_rel (exec_all_rel c d around m fs a b ss calls h two.0) (λ W l v w r. exec_through_rel c d around o fs a b cs (page_calls_up l calls) (here_up l h) two.1)

  pub exec_cases_rel : {V : World} (c d : Calls) (around : Around) (n : ℕ) (fs : List Frame) (a b : Here) (cs : tree.Cases) (v w : Value) (p q : Act) → PageCallsRel V c d
      → (h : HereRel V around fs a b) → cases_stand h.trees.demand n fs cs ≡ true
      → ValueRel (named V) v w → Agrees V p q → Agrees V (exec_cases c a cs v p) (exec_cases d b (open_cases around n cs) w q)
  exec_cases_rel c d around n fs a b no_cases v w p q calls h f r m = m
  exec_cases_rel c d around n fs a b (then_case no_expr ss cs) v w p q calls h f r g =
      let D = h.trees.demand in
      let m = n + 0 in
      let o = m + stmts_scopes ss in
      let both = and_parts (stmts_stand D m fs ss) (cases_stand D o fs cs) f in
      exec_cases_rel c d around o fs a b cs v w _ _ calls h both.1 r
      (also_rel (exec_all_rel c d around m fs a b ss calls h both.0) (λ W l x y k. exec_through_rel c d around o fs a b cs (page_calls_up l calls) (here_up l h) both.1))
  exec_cases_rel c d around n fs a b (then_case (one_expr e) ss cs) v w p q calls h f r g =
      let D = h.trees.demand in
      let m = n + expr_scopes e in
      let o = m + stmts_scopes ss in
      let one = and_parts (expr_stands D n fs e) (stmts_stand D m fs ss && cases_stand D o fs cs) f in
      let two = and_parts (stmts_stand D m fs ss) (cases_stand D o fs cs) one.1 in
      also_rel (eval_rel c d around n fs a b e calls h one.0) (λ W l x y k. on_one_to_one (λ X j only.
      let up = larger_more l j in
      choose_rel _ _ (same_of_same only (value_up up r) (value_up j k))
      (also_rel (exec_all_rel c d around m fs a b ss (page_calls_up up calls) (here_up up h) two.0) (λ Y i s t z. exec_through_rel c d around o fs a b cs (page_calls_up (larger_more up i) calls) (here_up (larger_more up i) h) two.1))
      (exec_cases_rel c d around o fs a b cs v w p q (page_calls_up up calls) (here_up up h) two.1 (value_up up r) (act_up up g))))
