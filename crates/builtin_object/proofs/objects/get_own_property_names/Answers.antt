use Rattle.page_meaning.specs.ObjectRows as object
use Rattle.builtin_object.proofs.ValueKinds as kinds
use Rattle.builtin_object.proofs.objects.get_own_property_names.Goals as goal

pub returns-in-Object : goal.returns-in-Object
returns-in-Object c = rw c.in-Object.is c.own_names.ensures

pub returns-in_default : goal.returns-in_default
returns-in_default c = kinds.no_object c.args.value.now (λ _. object.own_names) c.args.state.now c.raise.new.self c.raise.result c.in_default.not-Object c.raise.ensures
