use Rattle.object_heap.specs.Chain.{object_at}
use Rattle.heap_walker.specs.Weight.{load, object_load}
use Rattle.heap_walker.proofs.Weights.{adds_both}
use Rattle.heap_walker.proofs.weight.add_thing.Goals as goal

pub returns : goal.returns
returns c =
    let s = c.args.state.now in
    let o = object_at s.heap.objects c.args.at.0 in
    adds_both c.args.weight.now c.add.new.self c.add_object.new.weight (load 1 0) (object_load s o) c.add.ensures c.in_ok-add_object.ensures
