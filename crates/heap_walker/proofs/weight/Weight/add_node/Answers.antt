use Rattle.std.proofs.Common.{◌∙◌, subst}
use Rattle.dom_tree.specs.Node.{node_at}
use Rattle.heap_walker.specs.Things.{heard_at}
use Rattle.heap_walker.specs.Weight.{Adds, content_load, listeners_load}
use Rattle.heap_walker.proofs.Weights.{adds_both}
use Rattle.heap_walker.proofs.weight.Weight.add_node.Goals as goal

pub returns : goal.returns
returns c =
    let k = c.args.node.0 in
    let host = c.args.host.now in
    adds_both c.args.self.now c.add_content_of.new.self c.add_listeners.new.self (content_load (node_at host.nodes k).content) (listeners_load (heard_at k host.listeners))
    (subst (λ t. Adds c.args.self.now c.add_content_of.new.self (content_load (node_at t k).content)) c.dom.ensures c.add_content_of.ensures)
    (subst (λ ls. Adds c.add_content_of.new.self c.add_listeners.new.self (listeners_load ls)) (c.at.ensures ∙ c.requires k) c.add_listeners.ensures)
