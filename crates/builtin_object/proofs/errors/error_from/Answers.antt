use Rattle.builtin_object.proofs.ValueKinds as kinds
use Rattle.builtin_object.proofs.errors.error_from.Goals as goal

pub returns-in-Undefined : goal.returns-in-Undefined
returns-in-Undefined c = rw c.in-Undefined.is c.silent_error.ensures

pub returns-in_default : goal.returns-in_default
returns-in_default c = kinds.with_message c.args.kind c.args.value.now c.args.state.now c.error_about.new.state c.error_about.result c.in_default.not-Undefined c.error_about.ensures
