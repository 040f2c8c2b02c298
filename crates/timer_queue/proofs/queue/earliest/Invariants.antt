use Rattle.std.proofs.Common.{◌≡◌, ◌≤◌, drop, length}
use Rattle.timer_queue.specs.Timers.{earliest}
use Rattle.timer_queue.proofs.queue.earliest.Given as goal

abbrev pub invariant-loop-place : goal.invariant-loop-place
invariant-loop-place l = record {
  within : l.place ≤ length l.timers;
  found : l.found ≡ earliest (drop l.place l.timers);
}

abbrev pub decreases-loop-place : goal.decreases-loop-place
decreases-loop-place l = l.place
