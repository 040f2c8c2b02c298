use Rattle.js_values.specs.declared.value.Value.TheVariants.{Bool as Truth}
use Rattle.page_meaning.specs.ObjectRows as object
use Rattle.builtin_object.proofs.ValueKinds as kinds
use Rattle.builtin_object.proofs.Told.{told}
use Rattle.builtin_object.proofs.objects.is_extensible.Goals as goal

pub returns-in-Object : goal.returns-in-Object
returns-in-Object c = rw c.in-Object.is (told (λ s. (object.heap_object s c.in-Object.at).extensible) (λ x. Truth x) c.is_extensible.result c.args.state.now c.is_extensible.ensures)

pub returns-in_default : goal.returns-in_default
returns-in_default c = kinds.no_object c.args.value.now (λ _. object.telling (λ o. o.extensible)) c.args.state.now c.raise.new.self c.raise.result c.in_default.not-Object c.raise.ensures
