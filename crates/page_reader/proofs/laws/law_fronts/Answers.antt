use Rattle.page_reader.proofs.Fronts.{fronts}
use Rattle.page_reader.proofs.laws.law_fronts.Goals as goal

pub returns : goal.returns
returns c = fronts
