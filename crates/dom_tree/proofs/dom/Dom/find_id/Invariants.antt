use Rattle.std.proofs.Common.{◌≡◌, length}
use Rattle.std.specs.List.{find}
use Rattle.std.specs.Option.{IfSome}
use Rattle.dom_tree.specs.Trees.{find_id, has_id}
use Rattle.dom_tree.specs.Visits.{IsIn, visits_on}
use Rattle.dom_tree.proofs.Texts.{entered}
use Rattle.dom_tree.proofs.dom.Dom.find_id.Given as goal

abbrev pub invariant-loop-at : goal.invariant-loop-at
invariant-loop-at l = record {
  inside : IfSome l.at (λ v. IsIn l.self 0 v);
  same : find (has_id l.self l.id) (entered (visits_on l.self 0 l.at)) ≡ find_id l.self l.id;
}

abbrev pub decreases-loop-at : goal.decreases-loop-at
decreases-loop-at l = length (visits_on l.self 0 l.at)
