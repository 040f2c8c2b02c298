use Rattle.std.proofs.Common.{◌∙◌, subst}
use Rattle.migrate.specs.Moving.{IsAnswer}
use Rattle.migrate.proofs.saving.save_page.Goals as goal

pub returns-in-Ok-clause-answer : goal.returns-in-Ok-clause-answer
returns-in-Ok-clause-answer g c =
    subst (λ s. IsAnswer s (g.O.Sink.seen c.args.out.now) (g.O.Sink.seen c.write_state.new.out) c.write_state.result) (c.state.ensures ∙ c.in-Ok.ensures.state)
    c.write_state.ensures.answer
