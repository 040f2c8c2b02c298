-- What other crates cite.
use Rattle.rebuild_plan.proofs.Counted as counted
use Rattle.rebuild_plan.proofs.Standing as standing
use Rattle.rebuild_plan.specs.Count.{PlansAreFew}
use Rattle.rebuild_plan.specs.Stands.{PlansStand}
pub use Rattle.rebuild_plan.proofs.Changing.{none_changed, none_changed_at_rest}
pub use Rattle.rebuild_plan.proofs.Family.{all_kids, all_nodes, built_in_is_no_node, document_class, document_inside, kids, kids_as, kids_few, node_linked, nodes_as}
pub use Rattle.rebuild_plan.proofs.Standing.{number_at}

-- the statements of a plan name only what already stands
pub plans_stand : PlansStand
plans_stand = standing.plans_stand

-- and there are at most four for each thing that is saved, and one more
pub plans_are_few : PlansAreFew
plans_are_few = counted.plans_are_few
