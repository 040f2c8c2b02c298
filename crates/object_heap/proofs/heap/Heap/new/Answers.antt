use Rattle.object_heap.proofs.Resting.{kept_empty}
use Rattle.object_heap.proofs.heap.Heap.new.Goals as goal

pub invariant_of-result : goal.invariant_of-result
invariant_of-result c = rw (c.new.ensures.items, c.new-2.ensures.items, c.new-4.ensures.items) kept_empty
