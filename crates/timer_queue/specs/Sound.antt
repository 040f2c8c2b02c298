-- What holds of every queue.
use Rattle.std.specs.Prelude.{ℕ, ◌<◌, ◌≤◌, ◌^◌, Bool, List, [], ◌∷◌, unwrap_or}
use Rattle.timer_queue.specs.Laws.{HasDistinctIds}
use Rattle.timer_queue.specs.Marks.{AreMarks}
use Rattle.timer_queue.specs.Timers.{timer_limit}
use Rattle.timer_queue.specs.declared.timer.Live.{Live}

-- an id is from 1 to the limit, times are small enough to be added, and a period is at least 1
pub record IsInRange (t : Live) : Type 0 where
  pub above : 0 < t.id
  pub few : t.id ≤ timer_limit
  pub due : t.due < 2 ^ 61
  pub period : unwrap_or t.period 0 < 2 ^ 60
  pub long : 0 < unwrap_or t.period 1

abbrev pub AreInRange : List Live → Type 0
AreInRange [] = Unit {0}
AreInRange (t ∷ ts) = IsInRange t × AreInRange ts

pub record IsSound (ts : List Live) (marks : List Bool) (full : ℕ) : Type 0 where
  pub distinct : HasDistinctIds ts
  pub in_range : AreInRange ts
  pub marked : AreMarks ts marks full
