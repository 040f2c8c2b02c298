use Rattle.std.proofs.Common.{◌≡◌, ◌-◌, ◌<◌, length}
use Rattle.dom_tree.specs.Change.{is_above, is_above_within}
use Rattle.dom_tree.proofs.dom.Dom.is_above.Given as goal

abbrev pub invariant-loop-step : goal.invariant-loop-step
invariant-loop-step l = record {
  there : l.at.0 < length l.self;
  same : is_above_within l.self (length l.self - l.step) l.node.0 l.at.0 ≡ is_above l.self l.node.0 l.fn.at.0;
}
