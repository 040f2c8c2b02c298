use Rattle.builtin_object.proofs.ValueKinds as kinds
use Rattle.builtin_object.proofs.objects.create.Goals as goal

pub returns-in-Object : goal.returns-in-Object
returns-in-Object c = rw c.in-Object.is c.new_with.ensures

pub returns-in-Null : goal.returns-in-Null
returns-in-Null c = rw c.in-Null.is c.new_with-in-Null.ensures

pub returns-in_default : goal.returns-in_default
returns-in_default c = rw (kinds.no_prototype c.args.proto.now c.args.descriptors.now c.in_default.not-Object c.in_default.not-Null) c.raise.ensures
