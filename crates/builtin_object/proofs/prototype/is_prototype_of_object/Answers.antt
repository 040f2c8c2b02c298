use Rattle.js_values.specs.declared.value.Value.TheVariants.{Bool as Truth}
use Rattle.page_meaning.specs.Operators.{is_above}
use Rattle.builtin_object.proofs.ValueKinds as kinds
use Rattle.builtin_object.proofs.Told.{told}
use Rattle.builtin_object.proofs.prototype.is_prototype_of_object.Goals as goal

pub returns-in-Object : goal.returns-in-Object
returns-in-Object c = rw c.in-Object.is (told (λ s. is_above s c.in-Object.above c.args.at) (λ x. Truth x) c.is_above.result c.args.state.now c.is_above.ensures)

pub returns-in-Undefined : goal.returns-in-Undefined
returns-in-Undefined c = rw (kinds.above_none c.args.this.now c.args.at c.in-Undefined.is) c.raise.ensures
