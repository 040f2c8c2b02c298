use Rattle.builtin_object.proofs.values.truth_from.Goals as goal

pub returns-then-construct : goal.returns-then-construct
returns-then-construct c = rw c.if-construct.true c.raise.ensures
