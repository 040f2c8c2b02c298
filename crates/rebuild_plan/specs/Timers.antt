-- Timers as they are saved: in place of the moment at which it is due, each has what is left of its time.
use Rattle.std.specs.Prelude.{ℕ, ◌-◌, List, [], ◌∷◌}
use Rattle.timer_queue.specs.declared.timer.Live.{Live}
use Rattle.rebuild_plan.specs.Moved.{moved}

abbrev pub moved_timer : List ℕ → ℕ → Live → Live
moved_timer things clock t = record { id = t.id; due = t.due - clock; period = t.period; call = moved things t.call }

abbrev pub moved_timers : List ℕ → ℕ → List Live → List Live
moved_timers things clock [] = []
moved_timers things clock (t ∷ ts) = moved_timer things clock t ∷ moved_timers things clock ts
