use Rattle.page_meaning.specs.Operators.{instance_of}
use Rattle.page_state.specs.Does.{Raises}
use Rattle.page_state.proofs.OtherKinds.{no_object}
use Rattle.page_state.proofs.state.State.instance_of.Goals as goal

pub returns-in-Object : goal.returns-in-Object
returns-in-Object c = rw c.in-Object.is c.instance_of_object.ensures

pub returns-in-Undefined : goal.returns-in-Undefined
returns-in-Undefined c =
    no_object (λ v. Raises (λ _. instance_of c.args.value.now v) c.args.self.now c.raise.new.self c.raise.result) c.args.function.now
    c.in-Undefined.is c.raise.ensures c.raise.ensures (λ _. c.raise.ensures) (λ _. c.raise.ensures) (λ _. c.raise.ensures)
