use Rattle.js_values.specs.declared.value.Value.TheVariants.{Object}
use Rattle.page_meaning.specs.Operators.{is_instance_of, prototype_for_instances}
use Rattle.page_state.specs.Does.{itself}
use Rattle.page_state.proofs.Does.{asked_gives}
use Rattle.page_state.proofs.state.State.has_object.Goals as goal

pub returns : goal.returns
returns c =
    asked_gives (λ s. prototype_for_instances s c.args.function) (λ _. is_instance_of (Object c.args.at)) itself
    c.args.self.now c.inherits_from.new.self c.inherits_from.result (rw (← c.in_ok-prototype.ensures) c.inherits_from.ensures)
