use Rattle.dom_tree.proofs.Neighbours.{last_in_range, read_last}
use Rattle.dom_tree.proofs.dom.Dom.last_child.Goals as goal

pub returns-clause-last : goal.returns-clause-last
returns-clause-last c = read_last c.self.inside.nodes.items c.self.inside.top c.args.self.now c.self.invariant c.self.view_is c.args.node c.index.result.now c.requires c.index.ensures

pub returns-clause-there : goal.returns-clause-there
returns-clause-there c = last_in_range c.self.inside.nodes.items c.self.inside.top c.args.self.now c.self.invariant c.self.view_is c.args.node c.index.result.now c.requires c.index.ensures
