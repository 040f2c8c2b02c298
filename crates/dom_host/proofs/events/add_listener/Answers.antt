use Rattle.page_host.specs.Steps.{listens}
use Rattle.page_meaning.specs.NodeRows.{change_listeners, on_node}
use Rattle.page_state.specs.Does.{itself}
use Rattle.dom_host.proofs.Asked.{fails, node_gives, node_raises}
use Rattle.dom_host.proofs.events.add_listener.Goals as goal

pub returns-in_err-target : goal.returns-in_err-target
returns-in_err-target c =
    fails (λ calls. on_node (c.args.this.now) (λ k. change_listeners listens calls k c.args.args.now)) itself c.args.state.now c.found_node.new.state c.in_err-target.field-0.0 c.from_residual.result
    (node_raises (c.args.this.now) (λ calls k. change_listeners listens calls k c.args.args.now) c.args.state.now c.found_node.new.state c.in_err-target.field-0.0 c.in_err-target.ensures.found) c.from_residual.ensures

pub returns : goal.returns
returns c =
    node_gives (c.args.this.now) (λ calls k. change_listeners listens calls k c.args.args.now) itself c.in_ok-target.target c.args.state.now c.found_node.new.state c.listen.new.state (c.listen.result) c.in_ok-target.ensures.found
    (c.listen.ensures)
