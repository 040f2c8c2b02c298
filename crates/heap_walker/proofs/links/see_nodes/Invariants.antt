use Rattle.std.proofs.Common.{◌≡◌, length}
use Rattle.heap_walker.specs.Things.{nodes_links}
use Rattle.heap_walker.specs.Walking.{joined}
use Rattle.heap_walker.proofs.links.see_nodes.Given as goal

abbrev pub invariant-loop-rest : goal.invariant-loop-rest
invariant-loop-rest l = joined l.state l.seen.keys (nodes_links l.state.host.objects l.rest) ≡ joined l.state l.fn.seen.keys (nodes_links l.state.host.objects l.nodes)

abbrev pub decreases-loop-rest : goal.decreases-loop-rest
decreases-loop-rest l = length l.rest
