use Rattle.dom_tree.proofs.Emptying.{all_stand_alone}
use Rattle.dom_tree.proofs.Stays.{stands_in_place}
use Rattle.dom_tree.proofs.laws.law_replacement.Goals as goal

pub returns : goal.returns
returns c = record { stands_in_place = stands_in_place; all_stand_alone = all_stand_alone }
