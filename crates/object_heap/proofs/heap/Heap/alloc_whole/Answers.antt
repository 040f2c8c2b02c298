use Rattle.object_heap.proofs.heap.Heap.alloc_whole.Goals as goal

pub push_object-requires : goal.push_object-requires
push_object-requires c = record { array = λ list. cc (list, c.requires); names = c.len-distinct.ensures.distinct }
