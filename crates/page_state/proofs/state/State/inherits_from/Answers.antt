use Rattle.js_values.specs.declared.value.Value.TheVariants.{Object}
use Rattle.page_meaning.specs.Operators.{is_instance_of}
use Rattle.page_state.specs.Does.{Raises}
use Rattle.page_state.proofs.OtherKinds.{no_object}
use Rattle.page_state.proofs.state.State.inherits_from.Goals as goal

pub returns-in-Undefined : goal.returns-in-Undefined
returns-in-Undefined c =
    no_object (λ v. Raises (λ _. is_instance_of (Object c.args.at) v) c.args.self.now c.raise.new.self c.raise.result) c.args.prototype.now
    c.in-Undefined.is c.raise.ensures c.raise.ensures (λ _. c.raise.ensures) (λ _. c.raise.ensures) (λ _. c.raise.ensures)
