use Rattle.std.proofs.Common.{◌∙◌}
use Rattle.page_meaning.specs.Classes.{class_at}
use Rattle.page_state.proofs.Putting.{no_node}
use Rattle.page_state.proofs.state.State.host_put.Goals as goal

pub returns-in_default : goal.returns-in_default
returns-in_default c =
    no_node (class_at c.args.self.now c.args.at) c.args.host c.args.value.now c.args.self.now c.raise.new.self c.raise.result (λ k is. c.in_default.not-Node k (c.class.ensures ∙ is)) c.raise.ensures
