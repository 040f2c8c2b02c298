use Rattle.builtin_object.proofs.ValueKinds as kinds
use Rattle.builtin_object.proofs.objects.define_from.Goals as goal

pub returns-in-Object : goal.returns-in-Object
returns-in-Object c = rw c.in-Object.is c.define_all.ensures

pub returns-in-Text : goal.returns-in-Text
returns-in-Text c = rw c.in-Text.is c.define_from_text.ensures

pub returns-in-Undefined : goal.returns-in-Undefined
returns-in-Undefined c = rw (kinds.no_descriptors c.args.descriptors.now c.args.at c.in-Undefined.is) c.raise.ensures
