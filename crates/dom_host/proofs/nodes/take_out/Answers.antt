use Rattle.dom_tree.specs.Change.{removal_error}
use Rattle.dom_tree.specs.Steps.{takes_out}
use Rattle.page_meaning.specs.NodeRows.{unless_refused}
use Rattle.page_state.specs.Does.{itself}
use Rattle.page_state.proofs.Callers.{asked_gives}
use Rattle.dom_host.proofs.Settling.{settled_gives}
use Rattle.dom_host.proofs.nodes.take_out.Goals as goal

pub returns : goal.returns
returns c =
    asked_gives (λ s. removal_error s.host.nodes c.args.parent c.args.child) (λ _ e. unless_refused e (takes_out c.args.child) c.args.given) itself
    c.args.state.now c.unless_refused.new.state c.unless_refused.result
    (settled_gives (removal_error c.args.state.now.host.nodes c.args.parent c.args.child) (takes_out c.args.child) c.args.given
    c.args.state.now c.remove_child-answer.new.self c.unless_refused.new.state c.remove_child-answer.result c.unless_refused.result
    c.remove_child-answer.ensures.answer (λ h. rw h at c.remove_child-answer.ensures.step) (λ e h. rw h at c.remove_child-answer.ensures.err) c.unless_refused.ensures)
