use Rattle.std.proofs.Common.{◌≡◌, ◌<◌, length}
use Rattle.dom_tree.specs.Change.{all_taken_out}
use Rattle.dom_tree.specs.Node.{children_at}
use Rattle.dom_tree.proofs.dom.Dom.remove_children.Given as goal

abbrev pub invariant-loop-child : goal.invariant-loop-child
invariant-loop-child l = record {
  there : l.node.0 < length l.self;
  same : all_taken_out l.self (children_at l.self l.node.0) ≡ all_taken_out l.fn.self (children_at l.fn.self l.node.0);
}

abbrev pub decreases-loop-child : goal.decreases-loop-child
decreases-loop-child l = length (children_at l.self l.node.0)
