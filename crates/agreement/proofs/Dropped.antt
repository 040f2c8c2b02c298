-- Acts whose value nothing uses: they end alike but for it. So do a statement and those that it is opened to (section 14).
use Rattle.std.proofs.Common.{◌≡◌, refl, ap, ℕ, Bool, true, false, sym, not, ◌&&◌, is_some, if◌then◌else◌}
use Rattle.js_core.specs.Tree as tree
use Rattle.js_core.specs.Tree.{expr, for, function, no_declarators, no_expr, no_exprs, no_stmts, one_expr, then_declarator, then_expr, then_stmt, var}
use Rattle.js_values.specs.declared.value.Value.{Value}
use Rattle.js_values.specs.declared.value.Value.TheVariants.{Undefined}
use Rattle.page_meaning.specs.Act.{Act, ActOf, Calls, Ended, Outcome, Stopped, also, done, give, on_value, then_on}
use Rattle.page_meaning.specs.Expressions.{eval, eval_each}
use Rattle.page_meaning.specs.Names.{Here}
use Rattle.page_meaning.specs.Statements.{exec, exec_all, exec_declarators, exec_init}
use Rattle.page_meaning.specs.Store.{Store}
use Rattle.page_meaning.specs.declared.signal.Signal.{Signal}
use Rattle.page_meaning.specs.declared.signal.Signal.TheVariants as signal
use Rattle.heap_relations.proofs.Callers.{larger_same}
use Rattle.heap_relations.specs.Naming.{Larger, World, named}
use Rattle.heap_relations.specs.Related.{ValueRel}
use Rattle.instrumenter.specs.Around.{Around, append, as_init, before_for, before_for_in, is_changed, plain_names, single, var_where_any}
use Rattle.agreement.proofs.Acts.{bind_rel}
use Rattle.agreement.proofs.Heap.{value_up}
use Rattle.agreement.specs.Acts.{ActRel, Agrees, OutcomeRel, Relation, SignalRel, break as broken, continue as continued, ended, return as returned, stopped, thrown as raised, value as given}

-- ---- acts that run alike

pub act_as : {A : Type 0} {R : Relation A} {V : World} {p q : ActOf A} (r : ActOf A) → ((t : Store) (n : ℕ) → r.run t n ≡ q.run t n) → ActRel R V p q → ActRel R V p r
act_as r same h = record { run = λ W l s t n g. rw (same t n) (h.run W l s t n g) }

pub act_from : {A : Type 0} {R : Relation A} {V : World} {q r : ActOf A} (p : ActOf A) → ((s : Store) (n : ℕ) → p.run s n ≡ r.run s n) → ActRel R V r q → ActRel R V p q
act_from p same h = record { run = λ W l s t n g. rw (same s n) (h.run W l s t n g) }

then_on_also : (o : Outcome Signal) (f : Act) (p : Value → Act) → then_on (then_on o (on_value (λ v. f))) (on_value p) ≡ then_on o (on_value (λ v. also f p))
then_on_also (Stopped s) f p = refl
then_on_also (Ended (signal.Value v) s n) f p = refl
then_on_also (Ended (signal.Thrown v) s n) f p = refl
then_on_also (Ended (signal.Return v) s n) f p = refl
then_on_also (Ended signal.Break s n) f p = refl
then_on_also (Ended signal.Continue s n) f p = refl

-- statements one after others
pub append_run : (d : Calls) (b : Here) (ss us : tree.Stmts) (t : Store) (n : ℕ) → (exec_all d b (append ss us)).run t n ≡ (also (exec_all d b ss) (λ v. exec_all d b us)).run t n
append_run d b no_stmts us t n = refl
append_run d b (then_stmt s ss) us t n = first ((exec d b s).run t n) (append_run d b ss us)
  where
    first : (o : Outcome Signal) → ((t : Store) (n : ℕ) → (exec_all d b (append ss us)).run t n ≡ (also (exec_all d b ss) (λ v. exec_all d b us)).run t n)
        → then_on o (on_value (λ v. exec_all d b (append ss us))) ≡ then_on (then_on o (on_value (λ v. exec_all d b ss))) (on_value (λ v. exec_all d b us))
    first (Stopped s) h = refl
    first (Ended (signal.Value v) s n) h = h s n
    first (Ended (signal.Thrown v) s n) h = refl
    first (Ended (signal.Return v) s n) h = refl
    first (Ended signal.Break s n) h = refl
    first (Ended signal.Continue s n) h = refl

-- ---- ends but for the value

pub data DroppedRel (W : World) : Signal → Signal → Type 0 where
  value : {v w : Value} → DroppedRel W (signal.Value v) (signal.Value w)
  thrown : {v w : Value} → ValueRel (named W) v w → DroppedRel W (signal.Thrown v) (signal.Thrown w)
  return : {v w : Value} → ValueRel (named W) v w → DroppedRel W (signal.Return v) (signal.Return w)
  break : DroppedRel W signal.Break signal.Break
  continue : DroppedRel W signal.Continue signal.Continue

abbrev pub Drops : World → Act → Act → Type 0
Drops = ActRel DroppedRel

drop_value : {W : World} {s t : Signal} → SignalRel W s t → DroppedRel W s t
drop_value (given r) = value
drop_value (raised r) = thrown r
drop_value (returned r) = return r
drop_value broken = break
drop_value continued = continue

drop_outcome : {W : World} {o p : Outcome Signal} → OutcomeRel SignalRel W o p → OutcomeRel DroppedRel W o p
drop_outcome (ended X l r g) = ended X l (drop_value r) g
drop_outcome (stopped X l g) = stopped X l g

pub dropped_rel : {V : World} {p q : Act} → Agrees V p q → Drops V p q
dropped_rel h = record { run = λ W l s t n g. drop_outcome (h.run W l s t n g) }

-- what goes on does not see the value
on_dropped_rel : {V W : World} {f g : Act} {s t : Signal} → Larger V W → ((X : World) → Larger V X → Agrees X f g) → DroppedRel W s t → Agrees W (on_value (λ v. f) s) (on_value (λ v. g) t)
on_dropped_rel l h value = h _ l
on_dropped_rel l h (thrown r) = record { run = λ X j s t n g. ended X larger_same (raised (value_up j r)) g }
on_dropped_rel l h (return r) = record { run = λ X j s t n g. ended X larger_same (returned (value_up j r)) g }
on_dropped_rel l h break = record { run = λ X j s t n g. ended X larger_same broken g }
on_dropped_rel l h continue = record { run = λ X j s t n g. ended X larger_same continued g }

pub also_dropped_rel : {V : World} {p q : Act} (f g : Act) → Drops V p q → ((W : World) → Larger V W → Agrees W f g) → Agrees V (also p (λ v. f)) (also q (λ v. g))
also_dropped_rel f g m h = bind_rel m (λ W l a b r. on_dropped_rel l h r)

-- the same where what comes last is dropped, too
on_value_drops : {V W : World} {f g : Value → Act} {s t : Signal} → Larger V W → ((X : World) → Larger V X → (v w : Value) → ValueRel (named X) v w → Drops X (f v) (g w)) → SignalRel W s t
    → Drops W (on_value f s) (on_value g t)
on_value_drops l h (given r) = h _ l _ _ r
on_value_drops l h (raised r) = record { run = λ X j s t n g. ended X larger_same (thrown (value_up j r)) g }
on_value_drops l h (returned r) = record { run = λ X j s t n g. ended X larger_same (return (value_up j r)) g }
on_value_drops l h broken = record { run = λ X j s t n g. ended X larger_same break g }
on_value_drops l h continued = record { run = λ X j s t n g. ended X larger_same continue g }

pub also_drops_rel : {V : World} {p q : Act} (f g : Value → Act) → Agrees V p q → ((W : World) → Larger V W → (v w : Value) → ValueRel (named W) v w → Drops W (f v) (g w)) → Drops V (also p f) (also q g)
also_drops_rel f g m h = bind_rel m (λ W l a b r. on_value_drops l h r)

on_two_drops : {V W : World} {f g : Act} {s t : Signal} → Larger V W → ((X : World) → Larger V X → Drops X f g) → DroppedRel W s t → Drops W (on_value (λ v. f) s) (on_value (λ v. g) t)
on_two_drops l h value = h _ l
on_two_drops l h (thrown r) = record { run = λ X j s t n g. ended X larger_same (thrown (value_up j r)) g }
on_two_drops l h (return r) = record { run = λ X j s t n g. ended X larger_same (return (value_up j r)) g }
on_two_drops l h break = record { run = λ X j s t n g. ended X larger_same break g }
on_two_drops l h continue = record { run = λ X j s t n g. ended X larger_same continue g }

pub both_drop_rel : {V : World} {p q : Act} (f g : Act) → Drops V p q → ((W : World) → Larger V W → Drops W f g) → Drops V (also p (λ v. f)) (also q (λ v. g))
both_drop_rel f g m h = bind_rel m (λ W l a b r. on_two_drops l h r)

-- what goes on on the right may see the value
on_two_values : {V W : World} {f : Act} {g : Value → Act} {s t : Signal} → Larger V W → ((X : World) → Larger V X → (w : Value) → Drops X f (g w)) → DroppedRel W s t → Drops W (on_value (λ v. f) s) (on_value g t)
on_two_values l h value = h _ l _
on_two_values l h (thrown r) = record { run = λ X j s t n g. ended X larger_same (thrown (value_up j r)) g }
on_two_values l h (return r) = record { run = λ X j s t n g. ended X larger_same (return (value_up j r)) g }
on_two_values l h break = record { run = λ X j s t n g. ended X larger_same break g }
on_two_values l h continue = record { run = λ X j s t n g. ended X larger_same continue g }

pub two_drops_rel : {V : World} {p q : Act} (f : Act) (g : Value → Act) → Drops V p q → ((W : World) → Larger V W → (w : Value) → Drops W f (g w)) → Drops V (also p (λ v. f)) (also q g)
two_drops_rel f g m h = bind_rel m (λ W l a b r. on_two_values l h r)

pub gives_drop : {V : World} (v : Value) → Drops V done (give v)
gives_drop v = record { run = λ W l s t n g. ended W larger_same value g }

-- the right gives another value at its end
then_gives : {W : World} {o p : Outcome Signal} (u : Value) → OutcomeRel DroppedRel W o p → OutcomeRel DroppedRel W o (then_on p (on_value (λ v. give u)))
then_gives u (ended X l value g) = ended X l value g
then_gives u (ended X l (thrown r) g) = ended X l (thrown r) g
then_gives u (ended X l (return r) g) = ended X l (return r) g
then_gives u (ended X l break g) = ended X l break g
then_gives u (ended X l continue g) = ended X l continue g
then_gives u (stopped X l g) = stopped X l g

pub gives_rel : {V : World} {p q : Act} (u : Value) → Drops V p q → Drops V p (also q (λ v. give u))
gives_rel u h = record { run = λ W l s t n g. then_gives u (h.run W l s t n g) }

-- one statement
pub single_rel : {V : World} {p : Act} (d : Calls) (b : Here) (s : tree.Stmt) → Agrees V p (exec d b s) → Drops V p (exec_all d b (single s))
single_rel d b s h = gives_rel Undefined (dropped_rel h)

-- ---- declarations alone do nothing

plain_run : (d : Calls) (b : Here) (a : Around) (ds : tree.Declarators) (t : Store) (n : ℕ) → (exec_declarators d b (plain_names a ds)).run t n ≡ done.run t n
plain_run d b a no_declarators t n = refl
plain_run d b a (then_declarator x e ds) t n = by_case (a.own x) (plain_run d b a ds t n)
  where
    by_case : (o : Bool) → (exec_declarators d b (plain_names a ds)).run t n ≡ done.run t n
        → (exec_declarators d b (if o then plain_names a ds else then_declarator x no_expr (plain_names a ds))).run t n ≡ done.run t n
    by_case true h = h
    by_case false h = h

pub var_where_run : (d : Calls) (b : Here) (a : Around) (ds : tree.Declarators) (ss : tree.Stmts) (t : Store) (n : ℕ) → (exec_all d b (var_where_any (plain_names a ds) ss)).run t n ≡ (exec_all d b ss).run t n
var_where_run d b a ds ss t n = by_case (plain_names a ds) (plain_run d b a ds t n)
  where
    by_case : (es : tree.Declarators) → (exec_declarators d b es).run t n ≡ done.run t n → (exec_all d b (var_where_any es ss)).run t n ≡ (exec_all d b ss).run t n
    by_case no_declarators h = refl
    by_case (then_declarator x e es) h = ap (λ o. then_on o (on_value (λ v. exec_all d b ss))) h

pub before_for_run : (d : Calls) (b : Here) (a : Around) (i : tree.ForInit) (ss : tree.Stmts) (t : Store) (n : ℕ) → (exec_all d b (before_for a i ss)).run t n ≡ (exec_all d b ss).run t n
before_for_run d b a (tree.init_var ds) ss t n = by_case (is_changed a ds)
  where
    by_case : (o : Bool) → (exec_all d b (if o then var_where_any (plain_names a ds) ss else ss)).run t n ≡ (exec_all d b ss).run t n
    by_case true = var_where_run d b a ds ss t n
    by_case false = refl
before_for_run d b a tree.no_init ss t n = refl
before_for_run d b a (tree.init_expr e) ss t n = refl

pub before_for_in_run : (d : Calls) (b : Here) (a : Around) (declared : Bool) (e : tree.Expr) (ss : tree.Stmts) (t : Store) (n : ℕ)
    → (exec_all d b (before_for_in a declared e ss)).run t n ≡ (exec_all d b ss).run t n
before_for_in_run d b a true (tree.name x) ss t n = by_case (is_some (a.fields x) && not (a.own x))
  where
    by_case : (o : Bool) → (exec_all d b (if o then then_stmt (var (then_declarator x no_expr no_declarators)) ss else ss)).run t n ≡ (exec_all d b ss).run t n
    by_case true = refl
    by_case false = refl
before_for_in_run d b a declared e ss t n = refl

-- ---- the header of a `for`

give_last : (o : Outcome Signal) → then_on o (on_value (λ v. give v)) ≡ o
give_last (Stopped s) = refl
give_last (Ended (signal.Value v) s n) = refl
give_last (Ended (signal.Thrown v) s n) = refl
give_last (Ended (signal.Return v) s n) = refl
give_last (Ended signal.Break s n) = refl
give_last (Ended signal.Continue s n) = refl

pub init_run : (d : Calls) (b : Here) (es : tree.Exprs) (t : Store) (n : ℕ) → (exec_init d b (as_init es)).run t n ≡ (eval_each d b es Undefined).run t n
init_run d b no_exprs t n = refl
init_run d b (then_expr e no_exprs) t n = sym (give_last ((eval d b e).run t n))
init_run d b (then_expr e (then_expr u es)) t n = refl
