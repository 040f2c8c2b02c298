use Rattle.std.proofs.Common.{false}
use Rattle.js_values.specs.declared.value.Value.TheVariants.{Bool as Truth}
use Rattle.page_state.proofs.Callers.{given}
use Rattle.builtin_object.proofs.ValueKinds as kinds
use Rattle.builtin_object.proofs.prototype.is_prototype_of.Goals as goal

pub returns-in-Object : goal.returns-in-Object
returns-in-Object c = rw c.in-Object.is c.is_prototype_of_object.ensures

pub returns-in_default : goal.returns-in_default
returns-in_default c = rw (kinds.not_above c.args.this.now c.args.value.now c.in_default.not-Object) (given (Truth false) c.args.state.now)
