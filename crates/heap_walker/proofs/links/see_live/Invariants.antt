use Rattle.std.proofs.Common.{◌≡◌, length}
use Rattle.heap_walker.specs.Things.{timers_links}
use Rattle.heap_walker.specs.Walking.{joined}
use Rattle.heap_walker.proofs.links.see_live.Given as goal

abbrev pub invariant-loop-rest : goal.invariant-loop-rest
invariant-loop-rest l = joined l.state l.seen.keys (timers_links l.rest) ≡ joined l.state l.fn.seen.keys (timers_links l.timers)

abbrev pub decreases-loop-rest : goal.decreases-loop-rest
decreases-loop-rest l = length l.rest
