use Rattle.dom_tree.proofs.Neighbours.{first_in_range}
use Rattle.dom_tree.proofs.dom.Dom.first_child.Goals as goal

pub returns-clause-there : goal.returns-clause-there
returns-clause-there c = first_in_range c.self.inside.nodes.items c.self.inside.top c.args.self.now c.self.invariant c.self.view_is c.args.node c.index.result.now c.requires c.index.ensures
