-- Moments stay in range, and the test of a clock that passes no timer.
use Rattle.std.proofs.Common.{◌≡◌, ◌<◌, ◌≤◌, ◌^◌, ℕ, Bool, true, false, not, List, [], ◌∷◌, Option, Some, None, nat_le, unwrap_or, if◌then◌else◌, refl, arith}
use Rattle.std.proofs.lemmas.Bool.{and_parts}
use Rattle.std.specs.List.{list_any}
use Rattle.std.specs.Option.{is_none}
use Rattle.timer_queue.proofs.Callers.{is_low, is_taken}
use Rattle.timer_queue.specs.Timers.{before_later, clock_after, due_timers, first, is_due}
use Rattle.timer_queue.specs.declared.timer.Live.{Live}
use Rattle.page_host.specs.Steps.{is_period, time_limit}

is_limit : time_limit ≡ 9007199254740991
unfolding time_limit
is_limit = refl

-- a time of the language is small enough to be added
pub small : (n : ℕ) → n ≤ time_limit → n < 2 ^ 60
small n h = let e = is_limit in omega (arith, h, e)

pub small_period : (p : Option ℕ) → is_period p ≡ true → unwrap_or p 0 < 2 ^ 60
small_period None h = omega arith
small_period (Some n) h = small n (is_low n time_limit (and_parts (nat_le 1 n) (nat_le n time_limit) h).1)

-- the clock stays early where a timer fires up to an early moment
pub early_after : (ts : List Live) (moment clock : ℕ) → moment < 2 ^ 60 → clock < 2 ^ 60 → clock_after clock (first (due_timers ts moment)) < 2 ^ 60
early_after ts moment clock m h = by_first (first (due_timers ts moment)) refl
  where
    by_first : (o : Option Live) → first (due_timers ts moment) ≡ o → clock_after clock o < 2 ^ 60
    by_first None e = h
    by_first (Some t) e = let low = is_low t.due moment (is_taken ts moment t e).due in omega (arith, m, h, low)

-- the first of the due is none exactly where none is due
some_first : (t : Live) (us : List Live) → is_none (first (before_later t us)) ≡ false
some_first t [] = refl
some_first t (u ∷ us) = by_case (nat_le t.due u.due)
  where
    by_case : (b : Bool) → is_none (first (if b then t ∷ u ∷ us else u ∷ before_later t us)) ≡ false
    by_case true = refl
    by_case false = refl

pub none_due_first : (ts : List Live) (moment : ℕ) → is_none (first (due_timers ts moment)) ≡ not (list_any (is_due moment) ts)
none_due_first [] moment = refl
none_due_first (t ∷ ts) moment = by_case (is_due moment t) refl (none_due_first ts moment)
  where
    by_case : (b : Bool) → is_due moment t ≡ b → is_none (first (due_timers ts moment)) ≡ not (list_any (is_due moment) ts) → is_none (first (due_timers (t ∷ ts) moment)) ≡ not (list_any (is_due moment) (t ∷ ts))
    by_case true e h = rw e (some_first t (due_timers ts moment))
    by_case false e h = rw (e, h)
