-- Meaning: timers (HTML, timers), and time that passes.
use Rattle.std.specs.Prelude.{ℕ, zero, suc, ◌+◌, max, ℤ, pos, negsuc, List, [], Option, Some, None, length, nat_le}
use Rattle.js_values.specs.declared.built_in.BuiltIn.{BuiltIn}
use Rattle.js_values.specs.declared.built_in.BuiltIn.TheVariants as built_in
use Rattle.js_values.specs.declared.ids.ObjId.{ObjId}
use Rattle.js_values.specs.declared.throw.Throw.TheVariants.{OutOfRange, WrongArgument}
use Rattle.js_values.specs.declared.value.Value.{Value}
use Rattle.js_values.specs.declared.value.Value.TheVariants as value
use Rattle.timer_queue.specs.declared.timer.Live.{Live}
use Rattle.timer_queue.specs.Timers.{least_free, timer_limit}
use Rattle.page_host.specs.Steps.{clears, clock_at, fires, next_timer, starts}
use Rattle.page_meaning.specs.Act.{Act, Calls, bind, give, done, also, asking, choose}
use Rattle.page_meaning.specs.Convert.{number_in, to_number}
use Rattle.page_meaning.specs.Errors.{raise}
use Rattle.page_meaning.specs.Lines.{put_uncaught}
use Rattle.page_meaning.specs.NodeRows.{with_callback}
use Rattle.page_meaning.specs.ObjectRows.{argument}
use Rattle.page_meaning.specs.Places.{window}
use Rattle.page_meaning.specs.Primitives.{changes_host, stop, take_step}

-- a time: what is no number, and what is below 0, is 0
abbrev pub time_in : Option ℤ → ℕ
time_in None = 0
time_in (Some (pos n)) = n
time_in (Some (negsuc n)) = 0

abbrev pub with_time : Calls → List Value → ℕ → (ℕ → Act) → Act
with_time calls vs i f = also (to_number calls (argument vs i)) (λ v. f (time_in (number_in v)))

-- a timer starts, and gives its id, the least that is free
abbrev pub started : ℕ → Option ℕ → ObjId → Act
started delay period f =
    asking (λ s. least_free s.host.timers) (λ id. bind (changes_host (starts delay period f)) (λ _. give (value.Num (Some (pos id)))))

abbrev pub start : ℕ → Option ℕ → ObjId → Act
start delay period f = asking (λ s. nat_le timer_limit (length s.host.timers)) (λ full. choose full (raise OutOfRange) (started delay period f))

-- the function, and no more than so many arguments
abbrev pub with_function : List Value → ℕ → (ObjId → Act) → Act
with_function vs most f = with_callback (argument vs 0) (λ at. choose (nat_le (length vs) most) (f at) (raise WrongArgument))

abbrev pub clear : Calls → List Value → Act
clear calls vs = with_time calls vs 0 (λ id. bind (changes_host (clears id)) (λ _. done))

-- at once, on timers: a function is judged first, then the number of arguments; then they are converted from the left
abbrev pub timer_row : Calls → BuiltIn → List Value → Act
timer_row calls built_in.SetTimeout vs = with_function vs 2 (λ f. with_time calls vs 1 (λ delay. start delay None f))
timer_row calls built_in.SetInterval vs = with_function vs 2 (λ f. with_time calls vs 1 (λ period. start (max 1 period) (Some (max 1 period)) f))
timer_row calls built_in.SetIntervalFrom vs =
    with_function vs 3 (λ f. with_time calls vs 1 (λ delay. with_time calls vs 2 (λ period. start delay (Some (max 1 period)) f)))
timer_row calls built_in.ClearTimeout vs = clear calls vs
timer_row calls built_in.ClearInterval vs = clear calls vs
timer_row calls which vs = raise WrongArgument

-- ---- time that passes

-- the timer is called, once its step is taken and it is due; what it throws is put out
abbrev pub fired : Calls → ℕ → (Unit {0} → Act) → Act → Option Live → Act
fired calls moment next end None = end
fired calls moment next end (Some t) =
    bind take_step
    (λ _. bind (changes_host (fires moment)) (λ _. bind (calls.call (value.Object t.call) (value.Object window) []) (λ given. bind (put_uncaught given) next)))

-- so many firings at most, up to a moment; last the clock is there
abbrev pub firings : ℕ → Calls → ℕ → Act
firings zero calls moment = stop
firings (suc k) calls moment =
    asking (λ s. next_timer s.host moment) (fired calls moment (λ _. firings k calls moment) (bind (changes_host (clock_at moment)) (λ _. done)))

-- each firing takes a step, so there are no more than steps are left
abbrev pub pass_to : Calls → ℕ → Act
pass_to calls moment = record {
  run = λ s n. (firings (suc n) calls moment).run s n;
  leads = λ s n. (firings (suc n) calls moment).leads s n;
}

-- so much time passes
abbrev pub pass : Calls → ℕ → Act
pass calls n = asking (λ s. s.host.clock + n) (pass_to calls)
