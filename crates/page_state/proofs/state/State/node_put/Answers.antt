use Rattle.std.proofs.Common.{◌∙◌, ap, Err}
use Rattle.dom_tree.specs.declared.content.Content.{Content}
use Rattle.dom_tree.specs.Node.{kind_at, node_at}
use Rattle.page_host.specs.Host.{Host}
use Rattle.page_state.specs.declared.puts.Taking.TheVariants.{Attribute, Refused}
use Rattle.page_state.proofs.Putting.{taken_gives}
use Rattle.page_state.proofs.state.State.node_put.Goals as goal

pub returns-in-Refused : goal.returns-in-Refused
returns-in-Refused c =
    taken_gives c.args.host c.content.result.now.kind (kind_at c.args.self.now.host.nodes c.args.node.0) Refused c.args.node c.args.value.now c.args.self.now c.raise.new.self (Err c.raise.result)
    (ap (λ (x : Content). x.kind) (c.content.ensures ∙ ap (λ t. (node_at t c.args.node.0).content) (c.dom.ensures ∙ ap (λ (h : Host). h.nodes) c.host.ensures)))
    (λ calls. c.in-Refused.ensures calls c.args.node c.args.value.now) c.raise.ensures

pub returns-in-Attribute : goal.returns-in-Attribute
returns-in-Attribute c =
    taken_gives c.args.host c.content.result.now.kind (kind_at c.args.self.now.host.nodes c.args.node.0) Attribute c.args.node c.args.value.now c.args.self.now c.put_as_attribute.new.self
    c.put_as_attribute.result (ap (λ (x : Content). x.kind) (c.content.ensures ∙ ap (λ t. (node_at t c.args.node.0).content) (c.dom.ensures ∙ ap (λ (h : Host). h.nodes) c.host.ensures)))
    (λ calls. c.in-Attribute.ensures calls c.args.node c.args.value.now) c.put_as_attribute.ensures
