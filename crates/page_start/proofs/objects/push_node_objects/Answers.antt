use Rattle.std.proofs.Common.{◌<◌, refl, arith, length}
use Rattle.page_meaning.specs.Places.{node_prototype, node_prototype_place}
use Rattle.page_start.proofs.NodeObjects.{making_on}
use Rattle.page_start.proofs.objects.push_node_objects.Goals as goal

pub loop-node-preserved : goal.loop-node-preserved
unfolding node_prototype_place
loop-node-preserved c =
    let there : c.loop-node.node < length c.args.dom.now = omega (arith, c.loop-node-test.true, c.count-node-end.ensures.count) in
    making_on c.args.heap.now c.loop-node.heap c.alloc.new.self c.loop-node.places.items c.push.new.self.items c.args.dom.now c.loop-node.node c.in_ok-at.at node_prototype
    there refl c.in_ok-at.ensures.id c.in_ok-at.ensures.ok c.in_ok-push.ensures.items c.loop-node.invariant
