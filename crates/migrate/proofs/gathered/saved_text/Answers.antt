use Rattle.std.proofs.Common.{◌∙◌, IfErr, IfOk, subst}
use Rattle.migrate.specs.Moving.{IsNotSaved, IsSaved}
use Rattle.migrate.proofs.gathered.saved_text.Goals as goal

pub returns-in-Ok-clause-ok : goal.returns-in-Ok-clause-ok
returns-in-Ok-clause-ok c =
    subst (λ s. IfOk c.state_text.result (λ text. IsSaved s text.items)) (c.state.ensures ∙ c.in-Ok.ensures.state) c.state_text.ensures.ok

pub returns-in-Ok-clause-stops : goal.returns-in-Ok-clause-stops
returns-in-Ok-clause-stops c =
    subst (λ s. IfErr c.state_text.result (IsNotSaved s)) (c.state.ensures ∙ c.in-Ok.ensures.state) c.state_text.ensures.stops
