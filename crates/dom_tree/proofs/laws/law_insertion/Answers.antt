use Rattle.dom_tree.proofs.Upheld.{others_stay, stands_before}
use Rattle.dom_tree.proofs.laws.law_insertion.Goals as goal

pub returns : goal.returns
returns c = record { stands_before = stands_before; others_stay = others_stay }
