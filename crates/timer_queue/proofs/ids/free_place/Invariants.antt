use Rattle.std.proofs.Common.{◌≡◌, ℕ, ◌-◌, ◌<◌, ◌≤◌, false, true, length, slice_index_or}
use Rattle.timer_queue.proofs.ids.free_place.Given as goal

abbrev pub invariant-loop-place : goal.invariant-loop-place
invariant-loop-place l = record {
  above : l.full ≤ l.place;
  within : l.place ≤ length l.marks.items;
  set : (k : ℕ) → l.full ≤ k → k < l.place → slice_index_or l.marks.items k false ≡ true;
}

abbrev pub decreases-loop-place : goal.decreases-loop-place
decreases-loop-place l = length l.marks.items - l.place
