use Rattle.agreement.proofs.AllRows.{row_of_rel}
use Rattle.agreement.proofs.laws.law_rows_agree.Goals as goal

pub returns : goal.returns
returns c = λ W d e construct which this that vs ws k h r. row_of_rel d e construct which k h r
