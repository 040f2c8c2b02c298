use Rattle.page_meaning.specs.ObjectRows as object
use Rattle.builtin_object.proofs.ValueKinds as kinds
use Rattle.builtin_object.proofs.Told.{told}
use Rattle.builtin_object.proofs.objects.get_prototype_of.Goals as goal

pub returns-in-Object : goal.returns-in-Object
returns-in-Object c = rw c.in-Object.is (told (λ s. object.value_of_prototype (object.heap_object s c.in-Object.at).proto) (λ p. p) c.prototype_value.result c.args.state.now c.prototype_value.ensures)

pub returns-in_default : goal.returns-in_default
returns-in_default c = kinds.no_object c.args.value.now (λ _. object.get_prototype) c.args.state.now c.raise.new.self c.raise.result c.in_default.not-Object c.raise.ensures
