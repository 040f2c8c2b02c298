use Rattle.builtin_text.proofs.ThisKinds.{some_separator}
use Rattle.builtin_text.proofs.parts.split_by.Goals as goal

pub returns-in-Undefined : goal.returns-in-Undefined
returns-in-Undefined c = rw c.in-Undefined.is c.whole_text.ensures

pub returns-in_default : goal.returns-in_default
returns-in_default c = rw (some_separator c.args.separator.now c.args.between.now c.args.limit c.args.text.now c.in_default.not-Undefined) c.split_at.ensures
