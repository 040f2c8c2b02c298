use Rattle.dom_tree.specs.Change.{replacement_error}
use Rattle.dom_tree.specs.Steps.{replaces}
use Rattle.page_meaning.specs.NodeRows.{unless_refused}
use Rattle.page_state.specs.Does.{itself}
use Rattle.page_state.proofs.Callers.{asked_gives}
use Rattle.dom_host.proofs.Settling.{settled_gives}
use Rattle.dom_host.proofs.nodes.replace.Goals as goal

pub returns : goal.returns
returns c =
    asked_gives (λ s. replacement_error s.host.nodes c.args.parent c.args.child c.args.old) (λ _ e. unless_refused e (replaces c.args.parent c.args.child c.args.old) c.args.given) itself
    c.args.state.now c.unless_refused.new.state c.unless_refused.result
    (settled_gives (replacement_error c.args.state.now.host.nodes c.args.parent c.args.child c.args.old) (replaces c.args.parent c.args.child c.args.old) c.args.given
    c.args.state.now c.replace_child-answer.new.self c.unless_refused.new.state c.replace_child-answer.result c.unless_refused.result
    c.replace_child-answer.ensures.answer (λ h. c.replace_child-answer.ensures.step) (λ e h. rw h at c.replace_child-answer.ensures.err) c.unless_refused.ensures)
