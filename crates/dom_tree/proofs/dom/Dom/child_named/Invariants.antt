use Rattle.std.proofs.Common.{◌≡◌, length, true}
use Rattle.std.specs.Option.{ForSome}
use Rattle.dom_tree.specs.Node.{children_at, has}
use Rattle.dom_tree.specs.Trees.{first_named}
use Rattle.dom_tree.proofs.Kids.{from_on}
use Rattle.dom_tree.proofs.dom.Dom.child_named.Given as goal

abbrev pub invariant-loop-at : goal.invariant-loop-at
invariant-loop-at l = record {
  among : ForSome l.at (λ c. has c.0 (children_at l.self l.fn.node.0) ≡ true);
  same : first_named l.self l.name (from_on l.at (children_at l.self l.fn.node.0)) ≡ first_named l.self l.name (children_at l.self l.fn.node.0);
}

abbrev pub decreases-loop-at : goal.decreases-loop-at
decreases-loop-at l = length (from_on l.at (children_at l.self l.fn.node.0))
