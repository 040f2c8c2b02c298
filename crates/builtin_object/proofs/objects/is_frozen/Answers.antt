use Rattle.js_values.specs.declared.value.Value.TheVariants.{Bool as Truth}
use Rattle.page_meaning.specs.ObjectRows as object
use Rattle.builtin_object.proofs.ValueKinds as kinds
use Rattle.builtin_object.proofs.Told.{told}
use Rattle.builtin_object.proofs.objects.is_frozen.Goals as goal

pub returns-in_ok-is_closed-in-Object : goal.returns-in_ok-is_closed-in-Object
returns-in_ok-is_closed-in-Object c = rw c.in-Object.is (told (λ s. object.is_frozen (object.heap_object s c.in-Object.at)) (λ x. Truth x) c.in_ok-is_closed-in-Object.field-0 c.args.state.now c.in_ok-is_closed-in-Object.ensures)

pub returns-in_default : goal.returns-in_default
returns-in_default c = kinds.no_object c.args.value.now (λ _. object.telling object.is_frozen) c.args.state.now c.raise.new.self c.raise.result c.in_default.not-Object c.raise.ensures
