use Rattle.std.proofs.Common.{refl, Ok}
use Rattle.js_values.specs.declared.value.Value.TheVariants as value
use Rattle.page_meaning.specs.NodeRows.{has_children, on_node}
use Rattle.page_state.specs.Does.{itself}
use Rattle.dom_host.proofs.Asked.{fails, node_gives, node_raises}
use Rattle.dom_host.proofs.nodes.has_child_nodes.Goals as goal

pub returns-in_err-parent : goal.returns-in_err-parent
returns-in_err-parent c vs =
    fails (λ calls. on_node (c.args.this.now) (λ k. has_children k)) itself c.args.state.now c.found_node.new.state c.in_err-parent.field-0.0 c.from_residual.result
    (node_raises (c.args.this.now) (λ calls k. has_children k) c.args.state.now c.found_node.new.state c.in_err-parent.field-0.0 c.in_err-parent.ensures.found) c.from_residual.ensures

pub returns : goal.returns
returns c vs =
    node_gives (c.args.this.now) (λ calls k. has_children k) itself c.in_ok-parent.parent c.args.state.now c.found_node.new.state c.found_node.new.state (Ok (value.Bool c.has_children.result)) c.in_ok-parent.ensures.found
    (rw (c.has_children.ensures) (record { is = λ calls n. refl }))
