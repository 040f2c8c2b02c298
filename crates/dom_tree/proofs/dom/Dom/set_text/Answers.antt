use Rattle.std.proofs.Common.{ap, ◌∙◌}
use Rattle.dom_tree.specs.declared.content.Content.{Content}
use Rattle.dom_tree.specs.Content.{has_text}
use Rattle.dom_tree.proofs.Calls.{text_change}
use Rattle.dom_tree.proofs.Neighbours.{read_content}
use Rattle.dom_tree.proofs.dom.Dom.set_text.Goals as goal

pub kind_with_text-requires : goal.kind_with_text-requires
kind_with_text-requires c = ap (λ (z : Content). has_text z.kind) (read_content c.self.inside.nodes.items c.self.inside.top c.args.self.now c.self.invariant c.self.view_is c.args.node c.index_mut.result.now c.requires.there c.index_mut.ensures.value) ∙ c.requires.text

pub invariant_of-self : goal.invariant_of-self
invariant_of-self c = rw c.kind_with_text.ensures (text_change c.self.inside.nodes.items c.self.inside.top c.args.self.now c.self.invariant c.self.view_is c.args.node c.index_mut.result.now c.requires.there c.index_mut.ensures.value c.args.text c.requires.text).1

pub returns : goal.returns
returns c = rw c.kind_with_text.ensures (text_change c.self.inside.nodes.items c.self.inside.top c.args.self.now c.self.invariant c.self.view_is c.args.node c.index_mut.result.now c.requires.there c.index_mut.ensures.value c.args.text c.requires.text).0
