-- What holds of live timers and the clock at all times: due times are not before the clock, and no further ahead than a limit.
use Rattle.std.specs.Prelude.{◌≡◌, ℕ, ◌+◌, ◌<◌, ◌≤◌, max, List, length, Option, Some, None}
use Rattle.js_values.specs.declared.ids.ObjId.{ObjId}
use Rattle.timer_queue.specs.Timers.{IsIn, after_taking, cleared, due_timers, first, started, timer_limit}
use Rattle.timer_queue.specs.declared.timer.Live.{Live}

abbrev pub IsPeriod : ℕ → Option ℕ → Type 0
IsPeriod limit None = Unit {0}
IsPeriod limit (Some n) = (1 ≤ n) × (n ≤ limit)

pub record IsTimely (limit clock : ℕ) (t : Live) : Type 0 where
  pub id : 0 < t.id
  pub few : t.id ≤ timer_limit
  pub ahead : clock ≤ t.due
  pub near : t.due ≤ clock + limit
  pub period : IsPeriod limit t.period

abbrev pub AreTimely : ℕ → ℕ → List Live → Type 0
AreTimely limit clock ts = (t : Live) → IsIn ts t → IsTimely limit clock t

-- so it stays where a timer is started, cleared or fires, and where time has passed up to a moment at which none is due
pub record StayTimely (limit clock : ℕ) (ts : List Live) : Type 0 where
  pub starts : (delay : ℕ) (period : Option ℕ) (k : ObjId) → length ts < timer_limit → delay ≤ limit → IsPeriod limit period
      → AreTimely limit clock (started ts clock delay period k)
  pub clears : (id : ℕ) → AreTimely limit clock (cleared ts id)
  pub fires : (moment : ℕ) (t : Live) → first (due_timers ts moment) ≡ Some t → AreTimely limit (max clock t.due) (after_taking ts t)
  pub passes : (moment : ℕ) → clock ≤ moment → first (due_timers ts moment) ≡ None → AreTimely limit moment ts

abbrev pub TimersStayTimely : Type 0
TimersStayTimely = (limit clock : ℕ) (ts : List Live) → AreTimely limit clock ts → StayTimely limit clock ts
