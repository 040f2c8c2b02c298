use Rattle.builtin_object.proofs.ValueKinds as kinds
use Rattle.builtin_object.proofs.prototype.value_itself.Goals as goal

pub returns-in-Undefined : goal.returns-in-Undefined
returns-in-Undefined c = rw (kinds.no_value c.args.value.now c.in-Undefined.is) c.raise.ensures
