use Rattle.step_parts.proofs.Callers.{does_give}
use Rattle.step_parts.proofs.ends.give.Goals as goal

pub returns : goal.returns
returns c act s t weight m g = does_give act s t weight m c.in_ok-signal_of.field-0 (c.in_ok-signal_of.ensures act s t g)
