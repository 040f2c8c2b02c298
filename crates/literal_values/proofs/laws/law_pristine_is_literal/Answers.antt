use Rattle.literal_values.proofs.Pristine.{pristine_literal}
use Rattle.literal_values.proofs.laws.law_pristine_is_literal.Goals as goal

pub returns : goal.returns
returns c = pristine_literal
