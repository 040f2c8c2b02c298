use Rattle.literal_values.proofs.Callers.{property_literal}
use Rattle.literal_values.proofs.laws.law_reads_are_literal.Goals as goal

pub returns : goal.returns
returns c = property_literal
