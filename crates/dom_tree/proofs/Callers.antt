-- What the crates above use of the proofs here.
pub use Rattle.dom_tree.proofs.Emptying.{AllLeft, all_left, all_stand_alone}
pub use Rattle.dom_tree.proofs.Enough.{generations_are_enough}
pub use Rattle.dom_tree.proofs.Generations.{Deep, parent_depth, stable, trees_are}
pub use Rattle.dom_tree.proofs.Kept.{has_first, new_kids, new_up, same_trees}
pub use Rattle.dom_tree.proofs.Lists.{eq_refl, eq_sym, has_head, has_put, has_tail, has_without_other, has_without_same, id_of, same_id}
pub use Rattle.dom_tree.proofs.Moves.{fits, ready}
pub use Rattle.dom_tree.proofs.Proper.{ProperParts, folded_name, proper_parts}
pub use Rattle.dom_tree.proofs.Replacing.{IsAccepted, is_accepted, ready_for}
pub use Rattle.dom_tree.proofs.Stays.{new_nodes_stay_sound, stands_in_place, steps_stay_sound}
pub use Rattle.dom_tree.proofs.Taken.{Left, left}
pub use Rattle.dom_tree.proofs.Trees.{Moved, at_set, child_in, child_of_parent, children_past, depth, depth_below, moved, parent_in, parent_of_child, parent_past, put_trees, same_depth, take_trees}
pub use Rattle.dom_tree.proofs.Upheld.{no_own_ancestor}
