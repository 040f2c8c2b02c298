use Rattle.page_meaning.specs.Operators.{is_within}
use Rattle.page_state.specs.Does.{Raises}
use Rattle.page_state.proofs.OtherKinds.{no_object}
use Rattle.page_state.proofs.state.State.is_within.Goals as goal

pub returns-in-Object : goal.returns-in-Object
returns-in-Object c = rw c.in-Object.is c.has_named.ensures

pub returns-in-Undefined : goal.returns-in-Undefined
returns-in-Undefined c =
    no_object (λ v. Raises (λ calls. is_within calls c.args.value.now v) c.args.self.now c.raise.new.self c.raise.result) c.args.object.now
    c.in-Undefined.is c.raise.ensures c.raise.ensures (λ _. c.raise.ensures) (λ _. c.raise.ensures) (λ _. c.raise.ensures)
