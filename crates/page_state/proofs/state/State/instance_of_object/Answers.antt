use Rattle.std.proofs.Common.{Err}
use Rattle.js_values.specs.declared.throw.Throw.TheVariants.{NotFunction}
use Rattle.js_values.specs.declared.value.Value.TheVariants.{Object}
use Rattle.page_meaning.specs.Act.{choose}
use Rattle.page_meaning.specs.Errors.{raise}
use Rattle.page_meaning.specs.Operators.{has_instance}
use Rattle.page_meaning.specs.Properties.{class_of, is_function}
use Rattle.page_state.specs.Does.{itself}
use Rattle.page_state.proofs.Does.{asked_gives}
use Rattle.page_state.proofs.state.State.instance_of_object.Goals as goal

pub returns-then-is_function : goal.returns-then-is_function
returns-then-is_function c =
    asked_gives (λ s. is_function (class_of s (Object c.args.at))) (λ _ b. choose b (has_instance c.args.at c.args.value.now) (raise NotFunction)) itself
    c.args.self.now c.has_instance.new.self c.has_instance.result (rw (← c.if-is_function.ensures) c.has_instance.ensures)

pub returns-else-is_function : goal.returns-else-is_function
returns-else-is_function c =
    asked_gives (λ s. is_function (class_of s (Object c.args.at))) (λ _ b. choose b (has_instance c.args.at c.args.value.now) (raise NotFunction)) itself
    c.args.self.now c.raise.new.self (Err c.raise.result) (rw (← c.if-is_function.ensures) c.raise.ensures)
