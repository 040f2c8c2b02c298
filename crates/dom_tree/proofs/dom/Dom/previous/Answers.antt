use Rattle.dom_tree.proofs.Neighbours.{previous_in_range, read_previous}
use Rattle.dom_tree.proofs.dom.Dom.previous.Goals as goal

pub returns-clause-previous : goal.returns-clause-previous
returns-clause-previous c = read_previous c.self.inside.nodes.items c.self.inside.top c.args.self.now c.self.invariant c.self.view_is c.args.node c.index.result.now c.requires c.index.ensures

pub returns-clause-there : goal.returns-clause-there
returns-clause-there c = previous_in_range c.self.inside.nodes.items c.self.inside.top c.args.self.now c.self.invariant c.self.view_is c.args.node c.index.result.now c.requires c.index.ensures
