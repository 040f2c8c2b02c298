use Rattle.page_start.proofs.NodeObjects.{Making}
use Rattle.page_start.proofs.objects.push_node_objects.Given as goal

abbrev pub invariant-loop-node : goal.invariant-loop-node
invariant-loop-node l = Making l.initial.heap l.heap l.places.items l.dom l.node
