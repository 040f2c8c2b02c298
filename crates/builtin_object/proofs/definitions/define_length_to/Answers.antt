use Rattle.js_values.specs.declared.value.Value.TheVariants.{Num}
use Rattle.page_meaning.specs.Act.{give}
use Rattle.page_meaning.specs.Descriptors as descriptor
use Rattle.page_meaning.specs.Errors.{raise}
use Rattle.page_state.specs.Does.{no_value}
use Rattle.page_state.proofs.Callers.{also_gives, also_raises, given}
use Rattle.builtin_object.proofs.definitions.define_length_to.Goals as goal

pub returns-in-Ok : goal.returns-in-Ok
returns-in-Ok c = rw (← c.in-Ok.ensures) (also_gives (λ _. give (Num c.in-Ok.number)) (λ _ n. descriptor.define_or_throw c.args.at c.args.name.now (descriptor.change_to c.args.change.now n)) no_value (Num c.in-Ok.number) c.args.state.now c.args.state.now c.define_number.new.state c.define_number.result (given (Num c.in-Ok.number) c.args.state.now) c.define_number.ensures)

pub returns-in-Err : goal.returns-in-Err
returns-in-Err c = rw (← c.in-Err.ensures) (also_raises (λ _. raise c.in-Err.what) (λ _ n. descriptor.define_or_throw c.args.at c.args.name.now (descriptor.change_to c.args.change.now n)) c.args.state.now c.raise.new.self c.raise.result c.raise.ensures)
