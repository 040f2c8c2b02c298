use Rattle.std.proofs.Common.{◌∙◌, ap, length}
use Rattle.page_start.proofs.NodeObjects.{many_places, pristine_is, room_for_nodes}
use Rattle.page_start.proofs.objects.pristine.Goals as goal

pub push_node_objects-requires : goal.push_node_objects-requires
push_node_objects-requires c = room_for_nodes c.push_built_ins.new.heap c.in_ok-push_built_ins.ensures

pub new-host-requires : goal.new-host-requires
new-host-requires c =
    ap length c.in_ok-objects.ensures.places ∙ many_places (length c.push_built_ins.new.heap.objects) c.args.dom

pub returns : goal.returns
returns c =
    pristine_is c.push_built_ins.new.heap c.push_node_objects.new.heap c.in_ok-objects.objects.items c.new-host.result c.args.dom c.new.result
    c.in_ok-push_built_ins.ensures c.in_ok-objects.ensures.heap c.in_ok-objects.ensures.places c.new-host.ensures c.new.ensures
