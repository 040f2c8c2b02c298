use Rattle.std.proofs.Common.{◌≡◌, length}
use Rattle.object_shapes.specs.Links.{values_links}
use Rattle.heap_walker.specs.Walking.{joined}
use Rattle.heap_walker.proofs.links.see_values.Given as goal

abbrev pub invariant-loop-rest : goal.invariant-loop-rest
invariant-loop-rest l = joined l.state l.seen.keys (values_links l.rest) ≡ joined l.state l.fn.seen.keys (values_links l.values)

abbrev pub decreases-loop-rest : goal.decreases-loop-rest
decreases-loop-rest l = length l.rest
