use Rattle.dom_tree.proofs.First.{first_linked_is}
use Rattle.dom_tree.proofs.dom.Dom.new.Goals as goal

pub invariant_of-result : goal.invariant_of-result
invariant_of-result c = rw (c.in_ok-push.ensures.items, c.new-nodes.ensures.items, c.new.ensures) first_linked_is
