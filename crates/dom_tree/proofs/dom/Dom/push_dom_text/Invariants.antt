use Rattle.std.proofs.Common.{◌≡◌, ◌++◌, length}
use Rattle.std.specs.List.{flat_map}
use Rattle.std.specs.Option.{IfSome}
use Rattle.dom_tree.specs.DomText.{dom_text}
use Rattle.dom_tree.specs.Pieces.{dom_piece}
use Rattle.dom_tree.specs.Visits.{IsIn, visits_on}
use Rattle.dom_tree.proofs.dom.Dom.push_dom_text.Given as goal

abbrev pub invariant-loop-at : goal.invariant-loop-at
invariant-loop-at l = record {
  inside : IfSome l.at (λ v. IsIn l.self l.root.0 v);
  same : l.out.items ++ flat_map (dom_piece l.self) (visits_on l.self l.root.0 l.at) ≡ l.initial.out.items ++ dom_text l.self l.root;
}

abbrev pub decreases-loop-at : goal.decreases-loop-at
decreases-loop-at l = length (visits_on l.self l.root.0 l.at)
