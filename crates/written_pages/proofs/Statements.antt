-- What a statement does.
use Rattle.std.proofs.Common.{ℕ, true, List, []}
use Rattle.std.specs.Prelude.{◌∷◌}
use Rattle.js_core.specs.Tree as tree
use Rattle.js_core.specs.Tree.{no_expr, one_expr, var, function, expr, empty, block, if_else, do_while, while, for, for_in, continue, break, return, throw, try, switch, no_stmts, then_stmt, no_body, one_body, no_declarators, then_declarator, no_init, init_var, init_expr, no_catch, one_catch, no_cases, then_case}
use Rattle.js_values.specs.declared.value.Value.{Value}
use Rattle.js_values.specs.declared.value.Value.TheVariants as value
use Rattle.page_meaning.specs.Act.{Act, Calls}
use Rattle.page_meaning.specs.Names.{Here, in_scope}
use Rattle.page_meaning.specs.Statements.{declared_as, eval_maybe, exec, exec_all, exec_body, exec_cases, exec_catch, exec_declarators, exec_init, exec_last, exec_through, last_signal, unbroken}
use Rattle.page_meaning.specs.declared.signal.Signal.{Signal}
use Rattle.page_meaning.specs.declared.signal.Signal.TheVariants as signal
use Rattle.whole_ops.specs.Conversions.{is_true}
use Rattle.whole_ops.specs.Equality.{same_of}
use Rattle.literal_values.specs.Trees.{LiteralBody, LiteralCases, LiteralCatch, LiteralDeclarators, LiteralInit, LiteralMaybeExpr, LiteralStmt, LiteralStmts}
use Rattle.literal_values.specs.Values.{IsBounded, IsName}
use Rattle.written_pages.proofs.Acts.{also_is, asking_is, bind_is, choose_is, done_is, give_is, ret_is}
use Rattle.written_pages.proofs.Expressions.{eval_is, parts_are}
use Rattle.written_pages.proofs.Loops.{ListedUnits, each_name_is, loop_is, names_listed, turn_is}
use Rattle.written_pages.proofs.Names.{resolve_is, write_is}
use Rattle.written_pages.proofs.Operands.{assign_to_is}
use Rattle.written_pages.proofs.Primitives.{make_environment_is}
use Rattle.written_pages.specs.Acts.{CallsAre, HereIs, SignalIs, Writes}

last_is : (kept s : Signal) → SignalIs kept → SignalIs s → SignalIs (last_signal kept s)
last_is kept (signal.Value v) h k = h
last_is kept (signal.Thrown v) h k = k
last_is kept (signal.Return v) h k = k
last_is kept signal.Break h k = tt
last_is kept signal.Continue h k = tt

unbroken_is : (s : Signal) → SignalIs s → SignalIs (unbroken s)
unbroken_is signal.Break h = tt
unbroken_is (signal.Value v) h = h
unbroken_is (signal.Thrown v) h = h
unbroken_is (signal.Return v) h = h
unbroken_is signal.Continue h = tt

maybe_is : {calls : Calls} → CallsAre calls → (here : Here) → HereIs here → (e : tree.MaybeExpr) (v : Value) → LiteralMaybeExpr e → IsBounded v
    → Writes (eval_maybe calls here e v)
maybe_is c here t no_expr v h k = give_is v k
maybe_is c here t (one_expr e) v h k = eval_is c here t e h

declared_is : {calls : Calls} → CallsAre calls → (here : Here) → HereIs here → (x : List ℕ) (e : tree.MaybeExpr) → IsName x → LiteralMaybeExpr e
    → Writes (declared_as calls here x e)
declared_is c here t x no_expr h k = done_is
declared_is c here t x (one_expr e) h k = bind_is (resolve_is here x) (λ r p. also_is (eval_is c here t e k) (λ v q. write_is x r v h q))

declarators_are : {calls : Calls} → CallsAre calls → (here : Here) → HereIs here → (ds : tree.Declarators) → LiteralDeclarators ds
    → Writes (exec_declarators calls here ds)
declarators_are c here t no_declarators h = done_is
declarators_are c here t (then_declarator x e ds) h = also_is (declared_is c here t x e h.0 h.1) (λ v p. declarators_are c here t ds h.2)

init_is : {calls : Calls} → CallsAre calls → (here : Here) → HereIs here → (i : tree.ForInit) → LiteralInit i → Writes (exec_init calls here i)
init_is c here t no_init h = done_is
init_is c here t (init_var ds) h = declarators_are c here t ds h
init_is c here t (init_expr e) h = eval_is c here t e h

mutual
  pub exec_is : {calls : Calls} → CallsAre calls → (here : Here) → HereIs here → (s : tree.Stmt) → LiteralStmt s → Writes (exec calls here s)
  exec_is c here t (var ds) h = declarators_are c here t ds h
  exec_is c here t (function d) h = done_is
  exec_is c here t (expr e) h = also_is (eval_is c here t e h) (λ v p. done_is)
  exec_is c here t empty h = done_is
  exec_is c here t (block ss) h = exec_all_is c here t ss h
  exec_is c here t (if_else e a b) h =
      also_is (eval_is c here t e h.0) (λ v p. choose_is (is_true v) (exec_all_is c here t a h.1) (exec_body_is c here t b h.2))
  exec_is c here t (do_while body e) h =
      turn_is (exec_all_is c here t body h.0) (loop_is (eval_is c here t e h.1) (exec_all_is c here t body h.0) done_is)
  exec_is c here t (while e body) h = loop_is (eval_is c here t e h.0) (exec_all_is c here t body h.1) done_is
  exec_is c here t (for i test last body) h =
      also_is (init_is c here t i h.0) (λ v p.
      loop_is (maybe_is c here t test (value.Bool true) h.1 tt) (exec_all_is c here t body h.3) (maybe_is c here t last value.Undefined h.2 tt))
  exec_is c here t (for_in declared target e body) h =
      also_is (eval_is c here t e h.1) (λ v p.
      asking_is ListedUnits (λ s l. names_listed s v l) (λ ps q.
      each_name_is ps q (λ w k. assign_to_is c here target h.0 (parts_are c here t target h.0) w k) (exec_all_is c here t body h.2)))
  exec_is c here t continue h = ret_is signal.Continue tt
  exec_is c here t break h = ret_is signal.Break tt
  exec_is c here t (return e) h = also_is (maybe_is c here t e value.Undefined h tt) (λ v p. ret_is (signal.Return v) p)
  exec_is c here t (throw e) h = also_is (eval_is c here t e h) (λ v p. ret_is (signal.Thrown v) p)
  exec_is c here t (try b d l) h =
      bind_is (exec_all_is c here t b h.0) (λ s p. bind_is (exec_catch_is c here t d s h.1 p) (λ r q. exec_last_is c here t l r h.2 q))
  exec_is c here t (switch e cs) h =
      also_is (eval_is c here t e h.0) (λ v p. bind_is (exec_cases_is c here t cs v h.1 done_is) (λ s q. ret_is (unbroken s) (unbroken_is s q)))

  pub exec_all_is : {calls : Calls} → CallsAre calls → (here : Here) → HereIs here → (ss : tree.Stmts) → LiteralStmts ss → Writes (exec_all calls here ss)
  exec_all_is c here t no_stmts h = done_is
  exec_all_is c here t (then_stmt s ss) h = also_is (exec_is c here t s h.0) (λ v p. exec_all_is c here t ss h.1)

  pub exec_body_is : {calls : Calls} → CallsAre calls → (here : Here) → HereIs here → (b : tree.MaybeStmts) → LiteralBody b → Writes (exec_body calls here b)
  exec_body_is c here t no_body h = done_is
  exec_body_is c here t (one_body ss) h = exec_all_is c here t ss h

  pub exec_catch_is : {calls : Calls} → CallsAre calls → (here : Here) → HereIs here → (d : tree.MaybeCatch) (s : Signal) → LiteralCatch d → SignalIs s
      → Writes (exec_catch calls here d s)
  exec_catch_is c here t (one_catch x ss) (signal.Thrown v) h k =
      bind_is (make_environment_is here.env ((x, v) ∷ []) (k, tt)) (λ e p. exec_all_is c (in_scope here e) t ss h.1)
  exec_catch_is c here t (one_catch x ss) (signal.Value v) h k = ret_is (signal.Value v) k
  exec_catch_is c here t (one_catch x ss) (signal.Return v) h k = ret_is (signal.Return v) k
  exec_catch_is c here t (one_catch x ss) signal.Break h k = ret_is signal.Break tt
  exec_catch_is c here t (one_catch x ss) signal.Continue h k = ret_is signal.Continue tt
  exec_catch_is c here t no_catch s h k = ret_is s k

  pub exec_last_is : {calls : Calls} → CallsAre calls → (here : Here) → HereIs here → (l : tree.MaybeStmts) (s : Signal) → LiteralBody l → SignalIs s
      → Writes (exec_last calls here l s)
  exec_last_is c here t no_body s h k = ret_is s k
  exec_last_is c here t (one_body ss) s h k = bind_is (exec_all_is c here t ss h) (λ r p. ret_is (last_signal s r) (last_is s r k p))

  pub exec_through_is : {calls : Calls} → CallsAre calls → (here : Here) → HereIs here → (cs : tree.Cases) → LiteralCases cs → Writes (exec_through calls here cs)
  exec_through_is c here t no_cases h = done_is
  exec_through_is c here t (then_case e ss cs) h = also_is (exec_all_is c here t ss h.1) (λ v p. exec_through_is c here t cs h.2)

  pub exec_cases_is : {calls : Calls} {default : Act} → CallsAre calls → (here : Here) → HereIs here → (cs : tree.Cases) (v : Value) → LiteralCases cs → Writes default
      → Writes (exec_cases calls here cs v default)
  exec_cases_is c here t no_cases v h k = k
  exec_cases_is c here t (then_case no_expr ss cs) v h k =
      exec_cases_is c here t cs v h.2 (also_is (exec_all_is c here t ss h.1) (λ u p. exec_through_is c here t cs h.2))
  exec_cases_is c here t (then_case (one_expr e) ss cs) v h k =
      also_is (eval_is c here t e h.0) (λ w p.
      choose_is (same_of v w) (also_is (exec_all_is c here t ss h.1) (λ u q. exec_through_is c here t cs h.2)) (exec_cases_is c here t cs v h.2 k))
