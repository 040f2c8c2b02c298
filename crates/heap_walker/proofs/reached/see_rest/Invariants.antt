use Rattle.std.proofs.Common.{◌-◌, length}
use Rattle.heap_walker.specs.Walking.{IsPart}
use Rattle.heap_walker.proofs.reached.see_rest.Given as goal

abbrev pub invariant-loop-first : goal.invariant-loop-first
invariant-loop-first l = IsPart l.state l.first l.seen.keys

abbrev pub decreases-loop-first : goal.decreases-loop-first
decreases-loop-first l = length l.state.heap.objects - l.first
