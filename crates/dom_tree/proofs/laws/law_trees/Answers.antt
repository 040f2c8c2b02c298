use Rattle.dom_tree.proofs.Enough.{generations_are_enough}
use Rattle.dom_tree.proofs.Stays.{new_nodes_stay_sound, steps_stay_sound}
use Rattle.dom_tree.proofs.Upheld.{no_own_ancestor}
use Rattle.dom_tree.proofs.laws.law_trees.Goals as goal

pub returns : goal.returns
returns c = record {
  no_own_ancestor = no_own_ancestor;
  steps_stay_sound = steps_stay_sound;
  new_nodes_stay_sound = new_nodes_stay_sound;
  generations_are_enough = generations_are_enough;
}
