use Rattle.std.proofs.Common.{◌≡◌, ◌++◌, ◌≤◌, length}
use Rattle.std.specs.List.{flat_map}
use Rattle.std.specs.Option.{IfSome}
use Rattle.js_core.specs.declared.limits.TheConstants.{TEXT_LIMIT}
use Rattle.dom_tree.specs.DomText.{text_content}
use Rattle.dom_tree.specs.Pieces.{own_piece}
use Rattle.dom_tree.specs.Visits.{IsIn, visits_on}
use Rattle.dom_tree.proofs.dom.Dom.text_content.Given as goal

abbrev pub invariant-loop-at : goal.invariant-loop-at
invariant-loop-at l = record {
  inside : IfSome l.at (λ v. IsIn l.self l.node.0 v);
  same : l.units.items ++ flat_map (own_piece l.self) (visits_on l.self l.node.0 l.at) ≡ text_content l.self l.node;
  few : length l.units.items ≤ TEXT_LIMIT;
}

abbrev pub decreases-loop-at : goal.decreases-loop-at
decreases-loop-at l = length (visits_on l.self l.node.0 l.at)
