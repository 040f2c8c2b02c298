-- Timers, and time that passes.
use Rattle.std.proofs.Common.{ℕ, zero, suc, ◌≤◌, List, [], arith}
use Rattle.std.specs.Prelude.{Option, Some, None, max, pos, length, nat_le}
use Rattle.js_values.specs.declared.built_in.BuiltIn.{BuiltIn}
use Rattle.js_values.specs.declared.built_in.BuiltIn.TheVariants as built_in
use Rattle.js_values.specs.declared.ids.ObjId.{ObjId}
use Rattle.js_values.specs.declared.throw.Throw.TheVariants.{OutOfRange, WrongArgument}
use Rattle.js_values.specs.declared.value.Value.{Value}
use Rattle.js_values.specs.declared.value.Value.TheVariants as value
use Rattle.js_core.specs.Whole.{largest}
use Rattle.timer_queue.proofs.Callers.{least_free_small}
use Rattle.timer_queue.specs.Timers.{least_free, timer_limit}
use Rattle.timer_queue.specs.declared.timer.Live.{Live}
use Rattle.page_host.specs.Steps.{clears, clock_at, fires, starts}
use Rattle.page_meaning.specs.Act.{Act, Calls}
use Rattle.page_meaning.specs.Convert.{number_in}
use Rattle.page_meaning.specs.ObjectRows.{argument}
use Rattle.page_meaning.specs.Places.{window}
use Rattle.page_meaning.specs.TimerRows.{clear, fired, firings, pass, pass_to, start, started, time_in, timer_row, with_function, with_time}
use Rattle.literal_values.specs.Values.{AreBounded}
use Rattle.written_pages.proofs.Acts.{also_is, asking_any, asking_is, bind_is, choose_is, done_is, give_is, stepped_is, stop_is}
use Rattle.written_pages.proofs.Converting.{to_number_is}
use Rattle.literal_values.proofs.Callers.{value_at}
use Rattle.written_pages.proofs.Lines.{put_uncaught_is}
use Rattle.written_pages.proofs.OnNodes.{with_callback_is}
use Rattle.written_pages.proofs.Primitives.{changes_host_is, raise_is}
use Rattle.written_pages.specs.Acts.{CallsAre, Writes}

with_time_is : {calls : Calls} {f : ℕ → Act} → CallsAre calls → (vs : List Value) (i : ℕ) → AreBounded vs → ((n : ℕ) → Writes (f n)) → Writes (with_time calls vs i f)
with_time_is c vs i h k = also_is (to_number_is c (argument vs i) (value_at vs i h)) (λ v p. k (time_in (number_in v)))

-- few timers are live, so an id is a number of the language
free_number : (ts : List Live) → length ts ≤ timer_limit → least_free ts ≤ largest
free_number ts few = omega (arith, least_free_small ts, few)

started_is : (delay : ℕ) (period : Option ℕ) (f : ObjId) → Writes (started delay period f)
started_is delay period f =
    asking_is (λ id. id ≤ largest) (λ s l. free_number s.host.timers l.host.timers)
    (λ id small. bind_is (changes_host_is (starts delay period f) tt) (λ u p. give_is (value.Num (Some (pos id))) small))

start_is : (delay : ℕ) (period : Option ℕ) (f : ObjId) → Writes (start delay period f)
start_is delay period f = asking_any (λ full. choose_is full (raise_is OutOfRange tt) (started_is delay period f))

with_function_is : {f : ObjId → Act} (vs : List Value) (most : ℕ) → ((at : ObjId) → Writes (f at)) → Writes (with_function vs most f)
with_function_is vs most h = with_callback_is (argument vs 0) (λ at. choose_is (nat_le (length vs) most) (h at) (raise_is WrongArgument tt))

clear_is : {calls : Calls} → CallsAre calls → (vs : List Value) → AreBounded vs → Writes (clear calls vs)
clear_is c vs h = with_time_is c vs 0 h (λ id. bind_is (changes_host_is (clears id) tt) (λ u p. done_is))

-- at once, on timers
pub timer_row_is : {calls : Calls} → CallsAre calls → (which : BuiltIn) (vs : List Value) → AreBounded vs → Writes (timer_row calls which vs)
timer_row_is c built_in.SetTimeout vs h = with_function_is vs 2 (λ f. with_time_is c vs 1 h (λ delay. start_is delay None f))
timer_row_is c built_in.SetInterval vs h = with_function_is vs 2 (λ f. with_time_is c vs 1 h (λ period. start_is (max 1 period) (Some (max 1 period)) f))
timer_row_is c built_in.SetIntervalFrom vs h =
    with_function_is vs 3 (λ f. with_time_is c vs 1 h (λ delay. with_time_is c vs 2 h (λ period. start_is delay (Some (max 1 period)) f)))
timer_row_is c built_in.ClearTimeout vs h = clear_is c vs h
timer_row_is c built_in.ClearInterval vs h = clear_is c vs h
timer_row_is c which vs h = raise_is WrongArgument tt

-- ---- time that passes

fired_is : {calls : Calls} → CallsAre calls → (moment : ℕ) (next : Unit {0} → Act) (end : Act) (o : Option Live) → ((u : Unit {0}) → Writes (next u)) → Writes end
    → Writes (fired calls moment next end o)
fired_is c moment next end None h k = k
fired_is c moment next end (Some t) h k =
    stepped_is (λ u. bind_is (changes_host_is (fires moment) tt) (λ v p. bind_is (c.call (value.Object t.call) (value.Object window) [] tt tt)
    (λ given q. bind_is (put_uncaught_is given) (λ w r. h w))))

firings_is : {calls : Calls} → CallsAre calls → (k moment : ℕ) → Writes (firings k calls moment)
firings_is c zero moment = stop_is
firings_is {calls = calls} c (suc k) moment =
    asking_any (λ o. fired_is c moment (λ u. firings k calls moment) _ o (λ u. firings_is c k moment) (bind_is (changes_host_is (clock_at moment) tt) (λ u p. done_is)))

pass_to_is : {calls : Calls} → CallsAre calls → (moment : ℕ) → Writes (pass_to calls moment)
pass_to_is c moment = record { run = λ s n l. (firings_is c (suc n) moment).run s n l }

pub pass_is : {calls : Calls} → CallsAre calls → (n : ℕ) → Writes (pass calls n)
pass_is c n = asking_any (λ moment. pass_to_is c moment)
