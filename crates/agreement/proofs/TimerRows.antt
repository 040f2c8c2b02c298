-- Timers in both pages, and time that passes: the clocks are apart, and stay so (HTML, timers).
use Rattle.std.proofs.Common.{◌≡◌, refl, ap, subst, ℕ, zero, suc, max, List, Option, Some, None, length, nat_le, arith}
use Rattle.std.specs.Prelude.{pos}
use Rattle.js_values.specs.declared.built_in.BuiltIn.{BuiltIn}
use Rattle.js_values.specs.declared.built_in.BuiltIn.TheVariants as built_in
use Rattle.js_values.specs.declared.ids.ObjId.{ObjId}
use Rattle.js_values.specs.declared.throw.Throw.TheVariants.{OutOfRange, WrongArgument}
use Rattle.js_values.specs.declared.value.Value.{Value}
use Rattle.js_values.specs.declared.value.Value.TheVariants as value
use Rattle.timer_queue.specs.declared.timer.Live.{Live}
use Rattle.timer_queue.specs.Timers.{timer_limit}
use Rattle.page_host.specs.Steps.{clears, clock_at, fires, starts}
use Rattle.page_meaning.specs.Act.{Act, Calls, bind, done, give}
use Rattle.page_meaning.specs.Convert.{number_in}
use Rattle.page_meaning.specs.Places.{window}
use Rattle.page_meaning.specs.Primitives.{changes_host}
use Rattle.page_meaning.specs.TimerRows.{clear, fired, firings, pass, pass_to, start, started, time_in, timer_row, with_function, with_time}
use Rattle.heap_relations.proofs.Callers.{each_length, larger_more, larger_same}
use Rattle.heap_relations.specs.Naming.{Larger, Named, World, named}
use Rattle.heap_relations.specs.Related.{Each, Maybe, ValueRel, no_more, none, null, num, object, some, text, truth, undefined}
use Rattle.host_relations.proofs.Callers as host
use Rattle.host_relations.specs.Hosts.{clears_rel, clock_rel, fires_rel, starts_rel}
use Rattle.host_relations.specs.Timers.{MomentRel, TimerRel}
use Rattle.agreement.specs.Acts.{Agrees, CallsRel, Equal, Relation, clocks_of}
use Rattle.agreement.proofs.Acts.{also_rel, asking_rel, bind_rel, choose_rel, on_built_ins}
use Rattle.agreement.proofs.Called.{calls_up}
use Rattle.agreement.proofs.Dispatching.{put_uncaught_rel}
use Rattle.agreement.proofs.Heap.{named_up, stop_rel, take_step_rel, values_up}
use Rattle.agreement.proofs.HostSteps.{changes_host_rel}
use Rattle.agreement.proofs.ObjectRows.{argument_rel}
use Rattle.agreement.proofs.OnNodes.{OnObjects, with_callback_rel}
use Rattle.agreement.proofs.Values.{done_rel, give_rel, object_value_rel, raise_rel, to_number_rel}

-- ---- times

number_in_same : {V : World} {v w : Value} → ValueRel (named V) v w → number_in v ≡ number_in w
number_in_same undefined = refl
number_in_same null = refl
number_in_same truth = refl
number_in_same num = refl
number_in_same text = refl
number_in_same (object n) = refl

-- what goes on with a time
abbrev OnTimes : World → (ℕ → Act) → (ℕ → Act) → Type 0
OnTimes V f g = (W : World) → Larger V W → (n : ℕ) → Agrees W (f n) (g n)

with_time_rel : {V : World} {vs ws : List Value} {f g : ℕ → Act} (c d : Calls) → Each (ValueRel (named V)) vs ws → (i : ℕ) → OnTimes V f g → Agrees V (with_time c vs i f) (with_time d ws i g)
with_time_rel {f = f} {g = g} c d r i go =
    also_rel (to_number_rel c d (argument_rel r i)) (λ W l v w h. subst (λ n. Agrees W (f (time_in (number_in v))) (g (time_in n))) (number_in_same h) (go W l (time_in (number_in v))))

-- ---- rows

given_id : {V : World} (m n : ℕ) → m ≡ n → Agrees V (give (value.Num (Some (pos m)))) (give (value.Num (Some (pos n))))
given_id {V = V} m n e = subst (λ k. Agrees V (give (value.Num (Some (pos m)))) (give (value.Num (Some (pos k))))) e (give_rel num)

started_rel : {V : World} (delay : ℕ) (period : Option ℕ) (a b : ObjId) → Named V a.0 b.0 → Agrees V (started delay period a) (started delay period b)
started_rel delay period a b n =
    asking_rel {R = Equal} (λ W l s t g. (host.timers_keep_agreement W (clocks_of W) s.host.timers t.host.timers g.host.timers).free) (λ W l x y e.
    bind_rel {R = Equal} (changes_host_rel {x = starts delay period a} {y = starts delay period b} (λ X j. starts_rel (named_up (larger_more l j) n))) (λ X j u v q. given_id x y e))

start_rel : {V : World} (delay : ℕ) (period : Option ℕ) (a b : ObjId) → Named V a.0 b.0 → Agrees V (start delay period a) (start delay period b)
start_rel delay period a b n =
    asking_rel {R = Equal} (λ W l s t g. ap (λ m. nat_le timer_limit m) (each_length g.host.timers)) (λ W l x y e.
    choose_rel x y e (raise_rel OutOfRange) (started_rel delay period a b (named_up l n)))

with_function_rel : {V : World} {vs ws : List Value} {f g : ObjId → Act} → Each (ValueRel (named V)) vs ws → (most : ℕ) → OnObjects V f g → Agrees V (with_function vs most f) (with_function ws most g)
with_function_rel {vs = vs} {ws = ws} r most go =
    with_callback_rel (argument_rel r 0) (λ W l a b n. choose_rel (nat_le (length vs) most) (nat_le (length ws) most) (ap (λ m. nat_le m most) (each_length r)) (go W l a b n) (raise_rel WrongArgument))

clear_rel : {V : World} {vs ws : List Value} (c d : Calls) → Each (ValueRel (named V)) vs ws → Agrees V (clear c vs) (clear d ws)
clear_rel c d r = with_time_rel c d r 0 (λ W l id. bind_rel {R = Equal} (changes_host_rel {x = clears id} {y = clears id} (λ X j. clears_rel)) (λ X j u v e. done_rel))

pub timer_row_rel : {V : World} {vs ws : List Value} (c d : Calls) (which : BuiltIn) → Each (ValueRel (named V)) vs ws → Agrees V (timer_row c which vs) (timer_row d which ws)
timer_row_rel c d built_in.SetTimeout r = with_function_rel r 2 (λ W l a b n. with_time_rel c d (values_up l r) 1 (λ X j delay. start_rel delay None a b (named_up j n)))
timer_row_rel c d built_in.SetInterval r =
    with_function_rel r 2 (λ W l a b n. with_time_rel c d (values_up l r) 1 (λ X j period. start_rel (max 1 period) (Some (max 1 period)) a b (named_up j n)))
timer_row_rel c d built_in.SetIntervalFrom r =
    with_function_rel r 3 (λ W l a b n. with_time_rel c d (values_up l r) 1 (λ X j delay. with_time_rel c d (values_up (larger_more l j) r) 2 (λ Y i period.
    start_rel delay (Some (max 1 period)) a b (named_up (larger_more j i) n))))
timer_row_rel c d built_in.ClearTimeout r = clear_rel c d r
timer_row_rel c d built_in.ClearInterval r = clear_rel c d r
timer_row_rel c d which r = raise_rel WrongArgument

-- ---- time that passes

abbrev Moments : Relation ℕ
Moments W a b = MomentRel (clocks_of W) a b

abbrev Taken : Relation (Option Live)
Taken W o p = Maybe (TimerRel (Named W) (clocks_of W)) o p

-- the clocks stay those when the naming began
same_clocks : {V W : World} → Larger V W → clocks_of V ≡ clocks_of W
same_clocks l = ap (λ b. record { one = b.one_clock; two = b.two_clock }) l.before

moment_up : {V W : World} {a b : ℕ} → Larger V W → Moments V a b → Moments W a b
moment_up {a = a} {b = b} l h = subst (λ c. MomentRel c a b) (same_clocks l) h

fired_rel : {V : World} (c d : Calls) (m n : ℕ) (x y : Unit {0} → Act) (a b : Act) (o p : Option Live) → CallsRel V c d → Moments V m n → ((W : World) → Larger V W → Agrees W (x tt) (y tt))
    → ((W : World) → Larger V W → Agrees W a b) → Taken V o p → Agrees V (fired c m x a o) (fired d n y b p)
fired_rel c d m n x y a b _ _ calls moments next end none = end _ larger_same
fired_rel c d m n x y a b _ _ calls moments next end (some {a = t} {b = u} r) =
    bind_rel {R = Equal} take_step_rel (λ W l i j e.
    bind_rel {R = Equal} (changes_host_rel {x = fires m} {y = fires n} (λ X k. fires_rel (moment_up (larger_more l k) moments))) (λ X k i j e.
    on_built_ins (λ Y q there.
    let up = larger_more l (larger_more k q) in
    bind_rel (calls.call Y up (object_value_rel t.call u.call (named_up up r.call)) (object_value_rel window window (there window.0 (omega arith))) no_more) (λ Z z given other told.
    bind_rel {R = Equal} (put_uncaught_rel told) (λ S w i j e. next S (larger_more up (larger_more z w)))))))

firings_rel : {V : World} (k : ℕ) (c d : Calls) (m n : ℕ) → CallsRel V c d → Moments V m n → Agrees V (firings k c m) (firings k d n)
firings_rel zero c d m n calls moments = stop_rel
firings_rel (suc k) c d m n calls moments =
    asking_rel {R = Taken} (λ W l s t g. host.next_timer_read g.host g.heap.objects.one_to_one {m = m} {n = n} (moment_up l moments)) (λ W l o p taken.
    fired_rel c d m n (λ _. firings k c m) (λ _. firings k d n) (bind (changes_host (clock_at m)) (λ _. done)) (bind (changes_host (clock_at n)) (λ _. done)) o p (calls_up l calls) (moment_up l moments)
    (λ X j. firings_rel k c d m n (calls_up (larger_more l j) calls) (moment_up (larger_more l j) moments))
    (λ X j. bind_rel {R = Equal} (changes_host_rel {x = clock_at m} {y = clock_at n} (λ Y i. clock_rel (moment_up (larger_more l (larger_more j i)) moments))) (λ Y i u v e. done_rel)) taken)

pass_to_rel : {V : World} (c d : Calls) (m n : ℕ) → CallsRel V c d → Moments V m n → Agrees V (pass_to c m) (pass_to d n)
pass_to_rel c d m n calls moments = record { run = λ W l s t k g. (firings_rel (suc k) c d m n calls moments).run W l s t k g }

pub pass_rel : {V : World} (c d : Calls) (n : ℕ) → CallsRel V c d → Agrees V (pass c n) (pass d n)
pass_rel c d n calls = asking_rel {R = Moments} (λ W l s t g. record { apart = let e = g.host.clock.apart in omega (arith, e) }) (λ W l a b m. pass_to_rel c d a b (calls_up l calls) m)
