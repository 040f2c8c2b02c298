use Rattle.page_meaning.specs.NodeRows.{on_node, replace}
use Rattle.page_meaning.specs.ObjectRows.{argument}
use Rattle.page_state.specs.Does.{itself}
use Rattle.dom_host.proofs.Asked.{fails, node_gives, node_raises}
use Rattle.dom_host.proofs.nodes.replace_child.Goals as goal

pub returns-in_err-parent : goal.returns-in_err-parent
returns-in_err-parent c =
    fails (λ calls. on_node (c.args.this.now) (λ k1. on_node (argument c.args.args.now 0) (λ k2. on_node (argument c.args.args.now 1) (λ k3. replace k1 k2 k3 (argument c.args.args.now 1))))) itself c.args.state.now c.found_node.new.state c.in_err-parent.field-0.0 c.from_residual-in_err-parent.result
    (node_raises (c.args.this.now) (λ calls k1. on_node (argument c.args.args.now 0) (λ k2. on_node (argument c.args.args.now 1) (λ k3. replace k1 k2 k3 (argument c.args.args.now 1)))) c.args.state.now c.found_node.new.state c.in_err-parent.field-0.0 c.in_err-parent.ensures.found) c.from_residual-in_err-parent.ensures

pub returns-in_err-child : goal.returns-in_err-child
returns-in_err-child c =
    node_gives (c.args.this.now) (λ calls k1. on_node (argument c.args.args.now 0) (λ k2. on_node (argument c.args.args.now 1) (λ k3. replace k1 k2 k3 (argument c.args.args.now 1)))) itself c.in_ok-parent.parent c.args.state.now c.found_node.new.state c.found_node-2.new.state (c.from_residual-in_err-child.result) c.in_ok-parent.ensures.found
    (fails (λ calls. on_node (argument c.args.args.now 0) (λ k2. on_node (argument c.args.args.now 1) (λ k3. replace c.in_ok-parent.parent k2 k3 (argument c.args.args.now 1)))) itself c.found_node.new.state c.found_node-2.new.state c.in_err-child.field-0.0 c.from_residual-in_err-child.result
    (node_raises (argument c.args.args.now 0) (λ calls k2. on_node (argument c.args.args.now 1) (λ k3. replace c.in_ok-parent.parent k2 k3 (argument c.args.args.now 1))) c.found_node.new.state c.found_node-2.new.state c.in_err-child.field-0.0 (rw (c.in_ok-first.ensures) at c.in_err-child.ensures.found)) c.from_residual-in_err-child.ensures)

pub returns-in_err-old : goal.returns-in_err-old
returns-in_err-old c =
    node_gives (c.args.this.now) (λ calls k1. on_node (argument c.args.args.now 0) (λ k2. on_node (argument c.args.args.now 1) (λ k3. replace k1 k2 k3 (argument c.args.args.now 1)))) itself c.in_ok-parent.parent c.args.state.now c.found_node.new.state c.found_node-3.new.state (c.from_residual-in_err-old.result) c.in_ok-parent.ensures.found
    (node_gives (argument c.args.args.now 0) (λ calls k2. on_node (argument c.args.args.now 1) (λ k3. replace c.in_ok-parent.parent k2 k3 (argument c.args.args.now 1))) itself c.in_ok-child.child c.found_node.new.state c.found_node-2.new.state c.found_node-3.new.state (c.from_residual-in_err-old.result) (rw (c.in_ok-first.ensures) at c.in_ok-child.ensures.found)
    (fails (λ calls. on_node (argument c.args.args.now 1) (λ k3. replace c.in_ok-parent.parent c.in_ok-child.child k3 (argument c.args.args.now 1))) itself c.found_node-2.new.state c.found_node-3.new.state c.in_err-old.field-0.0 c.from_residual-in_err-old.result
    (node_raises (argument c.args.args.now 1) (λ calls k3. replace c.in_ok-parent.parent c.in_ok-child.child k3 (argument c.args.args.now 1)) c.found_node-2.new.state c.found_node-3.new.state c.in_err-old.field-0.0 (rw (c.in_ok-given.ensures) at c.in_err-old.ensures.found)) c.from_residual-in_err-old.ensures))

pub returns : goal.returns
returns c =
    node_gives (c.args.this.now) (λ calls k1. on_node (argument c.args.args.now 0) (λ k2. on_node (argument c.args.args.now 1) (λ k3. replace k1 k2 k3 (argument c.args.args.now 1)))) itself c.in_ok-parent.parent c.args.state.now c.found_node.new.state c.replace.new.state (c.replace.result) c.in_ok-parent.ensures.found
    (node_gives (argument c.args.args.now 0) (λ calls k2. on_node (argument c.args.args.now 1) (λ k3. replace c.in_ok-parent.parent k2 k3 (argument c.args.args.now 1))) itself c.in_ok-child.child c.found_node.new.state c.found_node-2.new.state c.replace.new.state (c.replace.result) (rw (c.in_ok-first.ensures) at c.in_ok-child.ensures.found)
    (node_gives (argument c.args.args.now 1) (λ calls k3. replace c.in_ok-parent.parent c.in_ok-child.child k3 (argument c.args.args.now 1)) itself c.in_ok-old.old c.found_node-2.new.state c.found_node-3.new.state c.replace.new.state (c.replace.result) (rw (c.in_ok-given.ensures) at c.in_ok-old.ensures.found)
    (rw (c.in_ok-given.ensures) at c.replace.ensures)))
