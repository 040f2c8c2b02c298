use Rattle.std.proofs.Common.{◌≡◌, suc}
use Rattle.object_heap.specs.Chain.{object_at}
use Rattle.page_meaning.specs.Operators.{stands_above}
use Rattle.page_state.proofs.instances.is_above.Given as goal

abbrev pub invariant-loop-proto : goal.invariant-loop-proto
invariant-loop-proto l =
    stands_above l.heap.objects (suc l.at.0) l.above.0 (object_at l.heap.objects l.at.0).proto
    ≡ stands_above l.heap.objects (suc l.fn.at.0) l.above.0 (object_at l.heap.objects l.fn.at.0).proto

abbrev pub decreases-loop-proto : goal.decreases-loop-proto
decreases-loop-proto l = l.at.0
