use Rattle.builtin_object.proofs.ValueKinds as kinds
use Rattle.builtin_object.proofs.values.truth_itself.Goals as goal

pub returns-in_default : goal.returns-in_default
returns-in_default c = rw (kinds.no_truth c.args.value.now c.in_default.not-Bool) c.raise.ensures
