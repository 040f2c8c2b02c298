use Rattle.js_values.specs.declared.value.Value.TheVariants.{Bool as Truth}
use Rattle.object_heap.specs.Property.{own_property}
use Rattle.page_meaning.specs.ObjectRows as object
use Rattle.builtin_object.proofs.ValueKinds as kinds
use Rattle.builtin_object.proofs.Told.{told}
use Rattle.builtin_object.proofs.prototype.lists_own.Goals as goal

pub returns-in-Object : goal.returns-in-Object
returns-in-Object c = rw c.in-Object.is (told (λ s. object.is_listed (own_property (object.props_at s c.in-Object.at) c.args.name.now)) (λ x. Truth x) c.is_listed.result c.args.state.now c.is_listed.ensures)

pub returns-in-Undefined : goal.returns-in-Undefined
returns-in-Undefined c = rw (kinds.lists_none c.args.value.now c.args.name.now c.in-Undefined.is) c.raise.ensures
