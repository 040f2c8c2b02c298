use Rattle.page_agreement.proofs.Compacts.{equal_compacts_agree}
use Rattle.page_agreement.proofs.laws.law_equal_compacts_agree.Goals as goal

pub returns : goal.returns
returns c = equal_compacts_agree
