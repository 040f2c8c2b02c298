use Rattle.dom_tree.proofs.Neighbours.{parent_in_range, read_among}
use Rattle.dom_tree.proofs.dom.Dom.parent.Goals as goal

pub returns-clause-among : goal.returns-clause-among
returns-clause-among c = read_among c.self.inside.nodes.items c.self.inside.top c.args.self.now c.self.invariant c.self.view_is c.args.node c.index.result.now c.requires c.index.ensures

pub returns-clause-there : goal.returns-clause-there
returns-clause-there c = parent_in_range c.self.inside.nodes.items c.self.inside.top c.args.self.now c.self.invariant c.self.view_is c.args.node c.index.result.now c.requires c.index.ensures
