use Rattle.step_visit.proofs.telling.filter.Goals as goal

pub returns-then-keeps : goal.returns-then-keeps
returns-then-keeps c = rw (c.if-keeps.true) c.keep.ensures
