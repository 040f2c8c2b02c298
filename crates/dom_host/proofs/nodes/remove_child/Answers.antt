use Rattle.page_meaning.specs.NodeRows.{on_node, remove}
use Rattle.page_meaning.specs.ObjectRows.{argument}
use Rattle.page_state.specs.Does.{itself}
use Rattle.dom_host.proofs.Asked.{fails, node_gives, node_raises}
use Rattle.dom_host.proofs.nodes.remove_child.Goals as goal

pub returns-in_err-parent : goal.returns-in_err-parent
returns-in_err-parent c =
    fails (λ calls. on_node (c.args.this.now) (λ k1. on_node (argument c.args.args.now 0) (λ k2. remove k1 k2 (argument c.args.args.now 0)))) itself c.args.state.now c.found_node.new.state c.in_err-parent.field-0.0 c.from_residual-in_err-parent.result
    (node_raises (c.args.this.now) (λ calls k1. on_node (argument c.args.args.now 0) (λ k2. remove k1 k2 (argument c.args.args.now 0))) c.args.state.now c.found_node.new.state c.in_err-parent.field-0.0 c.in_err-parent.ensures.found) c.from_residual-in_err-parent.ensures

pub returns-in_err-child : goal.returns-in_err-child
returns-in_err-child c =
    node_gives (c.args.this.now) (λ calls k1. on_node (argument c.args.args.now 0) (λ k2. remove k1 k2 (argument c.args.args.now 0))) itself c.in_ok-parent.parent c.args.state.now c.found_node.new.state c.found_node-2.new.state (c.from_residual-in_err-child.result) c.in_ok-parent.ensures.found
    (fails (λ calls. on_node (argument c.args.args.now 0) (λ k2. remove c.in_ok-parent.parent k2 (argument c.args.args.now 0))) itself c.found_node.new.state c.found_node-2.new.state c.in_err-child.field-0.0 c.from_residual-in_err-child.result
    (node_raises (argument c.args.args.now 0) (λ calls k2. remove c.in_ok-parent.parent k2 (argument c.args.args.now 0)) c.found_node.new.state c.found_node-2.new.state c.in_err-child.field-0.0 (rw (c.in_ok-given.ensures) at c.in_err-child.ensures.found)) c.from_residual-in_err-child.ensures)

pub returns : goal.returns
returns c =
    node_gives (c.args.this.now) (λ calls k1. on_node (argument c.args.args.now 0) (λ k2. remove k1 k2 (argument c.args.args.now 0))) itself c.in_ok-parent.parent c.args.state.now c.found_node.new.state c.take_out.new.state (c.take_out.result) c.in_ok-parent.ensures.found
    (node_gives (argument c.args.args.now 0) (λ calls k2. remove c.in_ok-parent.parent k2 (argument c.args.args.now 0)) itself c.in_ok-child.child c.found_node.new.state c.found_node-2.new.state c.take_out.new.state (c.take_out.result) (rw (c.in_ok-given.ensures) at c.in_ok-child.ensures.found)
    (rw (c.in_ok-given.ensures) at c.take_out.ensures))
