use Rattle.page_meaning.specs.ObjectRows as object
use Rattle.builtin_object.proofs.ValueKinds as kinds
use Rattle.builtin_object.proofs.objects.define_properties.Goals as goal

pub returns-in-Object : goal.returns-in-Object
returns-in-Object c = rw c.in-Object.is c.define_properties_in.ensures

pub returns-in_default : goal.returns-in_default
returns-in_default c = kinds.no_object c.args.value.now (λ _. object.define_properties c.args.descriptors.now) c.args.state.now c.raise.new.self c.raise.result c.in_default.not-Object c.raise.ensures
