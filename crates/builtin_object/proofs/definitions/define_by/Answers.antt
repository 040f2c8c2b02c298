use Rattle.js_values.specs.declared.value.Value.TheVariants.{Object}
use Rattle.page_meaning.specs.Descriptors as descriptor
use Rattle.page_meaning.specs.ObjectRows as object
use Rattle.page_state.proofs.Callers.{asked_gives, asked_raises}
use Rattle.builtin_object.proofs.definitions.define_by.Goals as goal

pub returns-in-Ok : goal.returns-in-Ok
returns-in-Ok c = asked_gives (λ s. descriptor.change_in s c.args.descriptor.now) (λ _. object.define_as c.args.at c.args.name.now) (λ x. Object x) c.args.state.now c.defined.new.state c.defined.result (rw (← c.in_ok-change.ensures, c.in-Ok.is) c.defined.ensures)

pub returns-in-Err : goal.returns-in-Err
returns-in-Err c = asked_raises (λ s. descriptor.change_in s c.args.descriptor.now) (λ _. object.define_as c.args.at c.args.name.now) c.args.state.now c.raise.new.self c.raise.result (rw (← c.in_ok-change.ensures, c.in-Err.is) c.raise.ensures)
