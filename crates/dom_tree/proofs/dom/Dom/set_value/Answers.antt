use Rattle.dom_tree.proofs.Calls.{value_change}
use Rattle.dom_tree.proofs.dom.Dom.set_value.Goals as goal

pub invariant_of-self : goal.invariant_of-self
invariant_of-self c = (value_change c.self.inside.nodes.items c.self.inside.top c.args.self.now c.self.invariant c.self.view_is c.args.node c.index_mut.result.now c.requires.there c.index_mut.ensures.value c.args.text c.requires.value).1

pub returns : goal.returns
returns c = (value_change c.self.inside.nodes.items c.self.inside.top c.args.self.now c.self.invariant c.self.view_is c.args.node c.index_mut.result.now c.requires.there c.index_mut.ensures.value c.args.text c.requires.value).0
