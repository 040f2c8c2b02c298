-- Live timers in starting order (HTML, timers).
use Rattle.std.specs.Prelude.{◌≡◌, ◌⊎◌, ℕ, zero, suc, ◌+◌, ◌==◌, Bool, not, List, [], ◌∷◌, ◌++◌, length, Option, Some, None, max, nat_le, filter, if◌then◌else◌}
use Rattle.std.specs.List.{list_any}
use Rattle.js_values.specs.declared.ids.ObjId.{ObjId}
use Rattle.timer_queue.specs.declared.timer.Live.{Live}

-- so many timers may be live
abbrev pub timer_limit : ℕ
timer_limit = 65536

-- the timer is one of these
abbrev pub IsIn : List Live → Live → Type 0
IsIn [] u = ⊥
IsIn (t ∷ ts) u = (t ≡ u) ⊎ IsIn ts u

-- the timer with this id
abbrev pub has_id : ℕ → Live → Bool
has_id id t = t.id == id

-- a timer with this id is live
abbrev pub is_live : List Live → ℕ → Bool
is_live ts id = list_any (has_id id) ts

-- the first id from this one on that is not live, among so many and the one behind them
abbrev pub free_from : ℕ → ℕ → List Live → ℕ
free_from zero id ts = id
free_from (suc more) id ts = if is_live ts id then free_from more (id + 1) ts else id

-- the least id above 0 that is not live: so many timers cannot have all ids up to the one behind their number
abbrev pub least_free : List Live → ℕ
least_free ts = free_from (length ts) 1 ts

-- the timers without the one with this id
abbrev pub cleared : List Live → ℕ → List Live
cleared ts id = filter (λ t. not (has_id id t)) ts

-- a timer before the first that is due no earlier
abbrev pub before_later : Live → List Live → List Live
before_later t [] = t ∷ []
before_later t (u ∷ us) = if nat_le t.due u.due then t ∷ u ∷ us else u ∷ before_later t us

-- timers sorted by due time and then by start
abbrev pub in_order : List Live → List Live
in_order [] = []
in_order (t ∷ ts) = before_later t (in_order ts)

-- a timer that is due at or before the moment
abbrev pub is_due : ℕ → Live → Bool
is_due moment t = nat_le t.due moment

-- the live timers due at or before the moment, sorted by due time and then by start
abbrev pub due_timers : List Live → ℕ → List Live
due_timers ts moment = in_order (filter (is_due moment) ts)

abbrev pub first : List Live → Option Live
first [] = None
first (t ∷ ts) = Some t

-- a timer, or the other one behind it, if that is due before it
abbrev pub earlier : Live → Option Live → Live
earlier t None = t
earlier t (Some u) = if nat_le t.due u.due then t else u

-- the first of those that are due first
abbrev pub earliest : List Live → Option Live
earliest [] = None
earliest (t ∷ ts) = Some (earlier t (earliest ts))

-- an interval again, due one period later; nothing of a timeout
abbrev pub again : Live → Option ℕ → List Live
again t None = []
again t (Some period) = record t { due = t.due + period } ∷ []

-- the timers after this one was taken: an interval is put at the end
abbrev pub after_taking : List Live → Live → List Live
after_taking ts t = cleared ts t.id ++ again t t.period

abbrev pub after_first : List Live → Option Live → List Live
after_first ts None = ts
after_first ts (Some t) = after_taking ts t

-- the clock after the timer fired, if there is one: its due time, where that is later
abbrev pub clock_after : ℕ → Option Live → ℕ
clock_after clock None = clock
clock_after clock (Some t) = max clock t.due

-- the timers after a new one was started
abbrev pub started : List Live → ℕ → ℕ → Option ℕ → ObjId → List Live
started ts now delay period call = ts ++ record { id = least_free ts; due = now + delay; period = period; call = call } ∷ []
