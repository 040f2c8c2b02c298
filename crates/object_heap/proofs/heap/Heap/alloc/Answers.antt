use Rattle.object_heap.proofs.Sound.{new_fit}
use Rattle.object_heap.proofs.heap.Heap.alloc.Goals as goal

pub push_object-requires : goal.push_object-requires
push_object-requires c = rw c.in_ok-props.ensures (new_fit c.args.class c.args.proto)
