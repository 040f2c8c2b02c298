use Rattle.dom_tree.proofs.Calls.{attribute_gone}
use Rattle.dom_tree.proofs.dom.Dom.remove_attribute.Goals as goal

pub invariant_of-self : goal.invariant_of-self
invariant_of-self c = rw c.remove.ensures (attribute_gone c.self.inside.nodes.items c.self.inside.top c.args.self.now c.self.invariant c.self.view_is c.args.node c.index_mut.result.now c.requires.there c.index_mut.ensures.value c.args.name.now c.requires.element).1

pub returns : goal.returns
returns c = rw c.remove.ensures (attribute_gone c.self.inside.nodes.items c.self.inside.top c.args.self.now c.self.invariant c.self.view_is c.args.node c.index_mut.result.now c.requires.there c.index_mut.ensures.value c.args.name.now c.requires.element).0
