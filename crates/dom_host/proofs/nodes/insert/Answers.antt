use Rattle.dom_tree.specs.Change.{insertion_error}
use Rattle.dom_tree.specs.Steps.{inserts}
use Rattle.page_meaning.specs.NodeRows.{unless_refused}
use Rattle.page_state.specs.Does.{itself}
use Rattle.page_state.proofs.Callers.{asked_gives}
use Rattle.dom_host.proofs.Settling.{settled_gives}
use Rattle.dom_host.proofs.nodes.insert.Goals as goal

pub returns : goal.returns
returns c =
    asked_gives (λ s. insertion_error s.host.nodes c.args.parent c.args.child c.args.before) (λ _ e. unless_refused e (inserts c.args.parent c.args.child c.args.before) c.args.given) itself
    c.args.state.now c.unless_refused.new.state c.unless_refused.result
    (settled_gives (insertion_error c.args.state.now.host.nodes c.args.parent c.args.child c.args.before) (inserts c.args.parent c.args.child c.args.before) c.args.given
    c.args.state.now c.insert_before-answer.new.self c.unless_refused.new.state c.insert_before-answer.result c.unless_refused.result
    c.insert_before-answer.ensures.answer (λ h. c.insert_before-answer.ensures.step) (λ e h. rw h at c.insert_before-answer.ensures.err) c.unless_refused.ensures)
