use Rattle.page_meaning.specs.ObjectRows as object
use Rattle.builtin_object.proofs.ValueKinds as kinds
use Rattle.builtin_object.proofs.objects.get_own_property_descriptor.Goals as goal

pub returns-in-Object : goal.returns-in-Object
returns-in-Object c = rw c.in-Object.is c.get_descriptor.ensures

pub returns-in_default : goal.returns-in_default
returns-in_default c = kinds.no_object c.args.value.now (λ calls. object.get_descriptor calls c.args.name.now) c.args.state.now c.raise.new.self c.raise.result c.in_default.not-Object c.raise.ensures
