-- When the timers of two pages mean the same: ids, periods and starting order are the same, functions are related, and due times are as far
-- apart as the clocks were.
use Rattle.std.specs.Prelude.{◌≡◌, ℕ, ◌+◌, List}
use Rattle.timer_queue.specs.declared.timer.Live.{Live}
use Rattle.heap_relations.specs.Related.{Each}

-- the clocks of the two pages when the naming began
pub record Clocks : Type 0 where
  pub one : ℕ
  pub two : ℕ

-- two moments are as far from each other as the clocks were
pub record MomentRel (c : Clocks) (a b : ℕ) : Type 0 where
  pub apart : a + c.two ≡ b + c.one

pub record TimerRel (R : ℕ → ℕ → Type 0) (c : Clocks) (t u : Live) : Type 0 where
  pub id : t.id ≡ u.id
  pub due : MomentRel c t.due u.due
  pub period : t.period ≡ u.period
  pub call : R t.call.0 u.call.0

-- the live timers, in starting order
abbrev pub TimersRel : (ℕ → ℕ → Type 0) → Clocks → List Live → List Live → Type 0
TimersRel R c ts us = Each (TimerRel R c) ts us
