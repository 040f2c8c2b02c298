use Rattle.std.proofs.Common.{◌≡◌, ◌≤◌, drop, length}
use Rattle.heap_walker.specs.Weight.{greatest}
use Rattle.heap_walker.proofs.weight.greatest.Given as goal

abbrev pub invariant-loop-place : goal.invariant-loop-place
invariant-loop-place l = (l.place ≤ length l.timers) × (l.found ≡ greatest (drop l.place l.timers))

abbrev pub decreases-loop-place : goal.decreases-loop-place
decreases-loop-place l = l.place
