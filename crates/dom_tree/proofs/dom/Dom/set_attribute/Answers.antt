use Rattle.std.proofs.Common.{sym}
use Rattle.dom_tree.proofs.Calls.{attribute_change}
use Rattle.dom_tree.proofs.dom.Dom.set_attribute.Goals as goal

pub invariant_of-self-2 : goal.invariant_of-self-2
invariant_of-self-2 c = rw (c.in_ok-set.ensures.ok, c.in_ok-value.ensures) (attribute_change c.self.inside.nodes.items c.self.inside.top c.args.self.now c.self.invariant c.self.view_is c.args.node c.index_mut.result.now c.requires.there c.index_mut.ensures.value c.args.name.now c.args.value.now (sym c.if-not-is_name.ensures) c.requires.element).1

pub returns-clause-ok : goal.returns-clause-ok
returns-clause-ok c = rw (c.in_ok-set.ensures.ok, c.in_ok-value.ensures) (attribute_change c.self.inside.nodes.items c.self.inside.top c.args.self.now c.self.invariant c.self.view_is c.args.node c.index_mut.result.now c.requires.there c.index_mut.ensures.value c.args.name.now c.args.value.now (sym c.if-not-is_name.ensures) c.requires.element).0
