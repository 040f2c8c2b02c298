-- Which ids of timers are live, as marks: the mark at each place is that of the next id, from 1 on.
use Rattle.std.specs.Prelude.{◌≡◌, ℕ, zero, suc, ◌+◌, ◌<◌, Bool, false, ◌||◌, List, [], ◌∷◌, ◌++◌, length, slice_index_or, if◌then◌else◌}
use Rattle.timer_queue.specs.Timers.{is_live}
use Rattle.timer_queue.specs.declared.timer.Live.{Live}
use Rattle.rebuild_plan.specs.declared.statement.Rebuild.{Rebuild}
use Rattle.rebuild_plan.specs.declared.statement.Rebuild.TheVariants.{Clear}

-- so many that are not set
abbrev pub no_marks : ℕ → List Bool
no_marks zero = []
no_marks (suc n) = false ∷ no_marks n

abbrev pub mark_at : List Bool → ℕ → Bool
mark_at marks k = slice_index_or marks k false

-- the marks of these timers are set, too
pub record AreSet (old new : List Bool) (ts : List Live) : Type 0 where
  pub long : length new ≡ length old
  pub each : (k : ℕ) → k < length old → mark_at new k ≡ (mark_at old k || is_live ts (k + 1))

-- the id is cleared, unless it is live
abbrev pub clear_unless : Bool → ℕ → List Rebuild
clear_unless live id = if live then [] else Clear id ∷ []

-- those from this one on
abbrev pub clear_all : ℕ → List Bool → List Rebuild
clear_all id [] = []
clear_all id (b ∷ bs) = clear_unless b id ++ clear_all (id + 1) bs
