use Rattle.std.proofs.Common.{Some}
use Rattle.page_meaning.specs.NodeRows.{insert, on_node}
use Rattle.page_state.specs.Does.{itself}
use Rattle.dom_host.proofs.Asked.{fails, node_gives, node_raises}
use Rattle.dom_host.proofs.Settling.{other_reference}
use Rattle.dom_host.proofs.nodes.insert_at.Goals as goal

pub returns-in_err-before-in_default : goal.returns-in_err-before-in_default
returns-in_err-before-in_default c =
    rw (other_reference c.args.parent c.args.child c.args.reference.now c.args.given c.in_default.not-Null)
    (fails (λ _. on_node c.args.reference.now (λ k. insert c.args.parent c.args.child (Some k) c.args.given)) itself c.args.state.now c.found_node.new.state
    c.in_err-before-in_default.field-0.0 c.from_residual.result
    (node_raises c.args.reference.now (λ _ k. insert c.args.parent c.args.child (Some k) c.args.given) c.args.state.now c.found_node.new.state
    c.in_err-before-in_default.field-0.0 c.in_err-before-in_default.ensures.found) c.from_residual.ensures)

pub returns-in-Null : goal.returns-in-Null
returns-in-Null c = rw c.in-Null.is c.insert.ensures

pub returns-in_ok-before-in_default : goal.returns-in_ok-before-in_default
returns-in_ok-before-in_default c =
    rw (other_reference c.args.parent c.args.child c.args.reference.now c.args.given c.in_default.not-Null)
    (node_gives c.args.reference.now (λ _ k. insert c.args.parent c.args.child (Some k) c.args.given) itself c.in_ok-before-in_default.before
    c.args.state.now c.found_node.new.state c.insert-in_default.new.state c.insert-in_default.result c.in_ok-before-in_default.ensures.found c.insert-in_default.ensures)
