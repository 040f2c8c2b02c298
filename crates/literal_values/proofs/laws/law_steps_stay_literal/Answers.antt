use Rattle.literal_values.proofs.Callers.{step_literal}
use Rattle.literal_values.proofs.laws.law_steps_stay_literal.Goals as goal

pub returns : goal.returns
returns c = step_literal
