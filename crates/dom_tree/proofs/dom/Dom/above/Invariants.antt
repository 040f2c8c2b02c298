use Rattle.std.proofs.Common.{◌≡◌, ◌++◌, ◌-◌, ◌<◌, length}
use Rattle.std.specs.Option.{ForSome}
use Rattle.dom_tree.specs.Node.{AreThere, above_within, nodes_above}
use Rattle.dom_tree.proofs.dom.Dom.above.Given as goal

abbrev pub invariant-loop-step : goal.invariant-loop-step
invariant-loop-step l = record {
  there : ForSome l.at (λ p. p.0 < length l.self);
  same : l.nodes.items ++ above_within l.self (length l.self - l.step) l.at ≡ nodes_above l.self l.fn.node;
  all : AreThere l.self l.nodes.items;
}
