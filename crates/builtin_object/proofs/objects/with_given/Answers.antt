use Rattle.js_values.specs.declared.value.Value.TheVariants.{Object}
use Rattle.page_state.proofs.Callers.{given}
use Rattle.builtin_object.proofs.ValueKinds as kinds
use Rattle.builtin_object.proofs.objects.with_given.Goals as goal

pub returns-in-Undefined : goal.returns-in-Undefined
returns-in-Undefined c = rw c.in-Undefined.is (given (Object c.args.at) c.args.state.now)

pub returns-in_default : goal.returns-in_default
returns-in_default c = rw (kinds.given_some c.args.descriptors.now c.args.at c.in_default.not-Undefined) c.define_properties_in.ensures
