-- Marks of ids.
use Rattle.std.specs.Prelude.{◌≡◌, ℕ, suc, ◌<◌, ◌≤◌, Bool, false, true, List, length}
use Rattle.std.specs.List.{slice_index_or}
use Rattle.timer_queue.specs.Timers.{is_live}
use Rattle.timer_queue.specs.declared.timer.Live.{Live}

-- each place says whether the id after it is live; ids past the marks are not. The first of them, so many, are live
pub record AreMarks (ts : List Live) (marks : List Bool) (full : ℕ) : Type 0 where
  pub each : (k : ℕ) → slice_index_or marks k false ≡ is_live ts (suc k)
  pub set : (k : ℕ) → k < full → slice_index_or marks k false ≡ true
  pub inside : full ≤ length marks

-- the place of the first mark that is not set, where all before another one are
pub record IsFirstFree (marks : List Bool) (full place : ℕ) : Type 0 where
  pub free : slice_index_or marks place false ≡ false
  pub set : (k : ℕ) → full ≤ k → k < place → slice_index_or marks k false ≡ true
  pub inside : place < length marks
