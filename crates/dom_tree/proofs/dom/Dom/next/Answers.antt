use Rattle.dom_tree.proofs.Neighbours.{next_in_range, read_next}
use Rattle.dom_tree.proofs.dom.Dom.next.Goals as goal

pub returns-clause-next : goal.returns-clause-next
returns-clause-next c = read_next c.self.inside.nodes.items c.self.inside.top c.args.self.now c.self.invariant c.self.view_is c.args.node c.index.result.now c.requires c.index.ensures

pub returns-clause-there : goal.returns-clause-there
returns-clause-there c = next_in_range c.self.inside.nodes.items c.self.inside.top c.args.self.now c.self.invariant c.self.view_is c.args.node c.index.result.now c.requires c.index.ensures
