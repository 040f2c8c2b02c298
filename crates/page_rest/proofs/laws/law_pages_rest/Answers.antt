use Rattle.page_rest.proofs.Resting.{pages_rest}
use Rattle.page_rest.proofs.laws.law_pages_rest.Goals as goal

pub returns : goal.returns
returns c = pages_rest c.law_standing_pages_agree.ensures
