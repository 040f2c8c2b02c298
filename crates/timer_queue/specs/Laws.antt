-- What the calls on the queue keep, and what timers do over time.
use Rattle.std.specs.Prelude.{◌≡◌, ℕ, zero, suc, ◌+◌, ◌<◌, ◌≤◌, ◌==◌, true, false, List, [], ◌∷◌, length, Option, Some, None, find, filter, if◌then◌else◌}
use Rattle.std.specs.List.{list_all}
use Rattle.js_values.specs.declared.ids.ObjId.{ObjId}
use Rattle.timer_queue.specs.Timers.{after_first, after_taking, cleared, due_timers, first, has_id, is_due, is_live, started}
use Rattle.timer_queue.specs.declared.timer.Live.{Live}

-- each live timer has an id of its own
abbrev pub HasDistinctIds : List Live → Type 0
HasDistinctIds [] = Unit {0}
HasDistinctIds (t ∷ ts) = (is_live ts t.id ≡ false) × HasDistinctIds ts

-- ids stay distinct where a timer is started, cleared or taken
pub record KeepsDistinctIds (ts : List Live) : Type 0 where
  pub starts : (now delay : ℕ) (period : Option ℕ) (call : ObjId) → HasDistinctIds ts → HasDistinctIds (started ts now delay period call)
  pub clears : (id : ℕ) → HasDistinctIds ts → HasDistinctIds (cleared ts id)
  pub takes : (moment : ℕ) → HasDistinctIds ts → HasDistinctIds (after_first ts (first (due_timers ts moment)))

-- the id is the least above 0 that is not live
pub record IsLeastFree (ts : List Live) (id : ℕ) : Type 0 where
  pub above : 0 < id
  pub free : is_live ts id ≡ false
  pub least : (k : ℕ) → 0 < k → k < id → is_live ts k ≡ true

-- due times do not fall
abbrev pub NeverFall : List Live → Type 0
NeverFall [] = Unit {0}
NeverFall (t ∷ ts) = (list_all (λ u. is_due u.due t) ts ≡ true) × NeverFall ts

-- the timers due just at a moment
abbrev pub due_at : ℕ → List Live → List Live
due_at moment ts = filter (λ t. t.due == moment) ts

-- the timers due up to a moment are those, each once: they go by due time, and those of one due time stand in starting order
pub record AreInOrder (ts : List Live) (moment : ℕ) : Type 0 where
  pub by_due : NeverFall (due_timers ts moment)
  pub by_start : (due : ℕ) → due ≤ moment → due_at due (due_timers ts moment) ≡ due_at due ts
  pub none_later : (due : ℕ) → moment < due → due_at due (due_timers ts moment) ≡ []

abbrev pub taken_then : Option Live → (Live → List Live) → List Live
taken_then None later = []
taken_then (Some t) later = t ∷ later t

-- the timers that are taken one after another up to a moment, each as it was then; at most so many
abbrev pub takings : ℕ → List Live → ℕ → List Live
takings zero ts moment = []
takings (suc more) ts moment = taken_then (first (due_timers ts moment)) (λ t. takings more (after_taking ts t) moment)

abbrev pub fires_then : Option ℕ → (ℕ → List Live) → List Live
fires_then None later = []
fires_then (Some period) later = later period

-- the firings of one timer up to a moment: a timeout's one, an interval's again after each period; at most so many
abbrev pub firings : ℕ → Live → ℕ → List Live
firings zero t moment = []
firings (suc more) t moment =
    if is_due moment t then t ∷ fires_then t.period (λ period. firings more (record t { due = t.due + period }) moment)
    else []

-- The takings up to a moment go by due time, none after the moment. Where they end, each live timer was taken as often as it
-- fires, each time when it was due, and nothing else was taken.
pub record TakesTheFirings (ts : List Live) (moment most : ℕ) : Type 0 where
  pub by_due : NeverFall (takings most ts moment)
  pub in_time : list_all (is_due moment) (takings most ts moment) ≡ true
  pub each : (t : Live) → HasDistinctIds ts → find (has_id t.id) ts ≡ Some t → length (takings most ts moment) < most → filter (has_id t.id) (takings most ts moment) ≡ firings most t moment
  pub others : (id : ℕ) → is_live ts id ≡ false → filter (has_id id) (takings most ts moment) ≡ []
