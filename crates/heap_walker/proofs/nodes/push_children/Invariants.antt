use Rattle.std.proofs.Common.{◌-◌, length}
use Rattle.dom_tree.specs.Node.{children_at}
use Rattle.heap_walker.proofs.Siblings.{IsSplit}
use Rattle.heap_walker.proofs.nodes.push_children.Given as goal

abbrev pub invariant-loop-at : goal.invariant-loop-at
invariant-loop-at l = IsSplit l.nodes.items l.at (children_at l.dom l.fn.node.0)

abbrev pub decreases-loop-at : goal.decreases-loop-at
decreases-loop-at l = length (children_at l.dom l.fn.node.0) - length l.nodes.items
