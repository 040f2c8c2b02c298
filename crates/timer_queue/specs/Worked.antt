-- A worked queue: a timeout is started, then an interval that is due before it; what is due at 20 is taken twice, and a timer is cleared.
use Rattle.std.specs.Prelude.{◌≡◌, ℕ, List, [], ◌∷◌, Some, None}
use Rattle.timer_queue.specs.Timers.{after_first, cleared, due_timers, first, in_order, least_free, started}
use Rattle.timer_queue.specs.declared.timer.Live.{Live}

abbrev timeout : Live
timeout = record { id = 1; due = 20; period = None; call = record { 0 = 7 } }

abbrev interval : ℕ → Live
interval due = record { id = 2; due = due; period = Some 10; call = record { 0 = 8 } }

abbrev both : List Live
both = timeout ∷ interval 10 ∷ []

-- what is left where the first that is due at 20 is taken
abbrev taken : List Live → List Live
taken ts = after_first ts (first (due_timers ts 20))

-- the timers after each call, what is due first, and the next id
pub record IsWorked : Type 0 where
  pub one : started [] 0 20 None (record { 0 = 7 }) ≡ timeout ∷ []
  pub two : started (timeout ∷ []) 0 10 (Some 10) (record { 0 = 8 }) ≡ both
  pub next : in_order both ≡ interval 10 ∷ timeout ∷ []
  pub none_due : due_timers both 9 ≡ []
  pub due : first (due_timers both 20) ≡ Some (interval 10)
  pub interval_taken : taken both ≡ timeout ∷ interval 20 ∷ []
  pub due_then : first (due_timers (taken both) 20) ≡ Some timeout
  pub timeout_taken : taken (taken both) ≡ interval 20 ∷ []
  pub none_cleared : cleared (interval 20 ∷ []) 9 ≡ interval 20 ∷ []
  pub all_cleared : cleared (interval 20 ∷ []) 2 ≡ []
  pub free : least_free (interval 20 ∷ []) ≡ 1
