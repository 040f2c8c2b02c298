use Rattle.page_rest.proofs.Walked.{pages_have_walks}
use Rattle.page_rest.proofs.laws.law_pages_have_walks.Goals as goal

pub returns : goal.returns
returns c = pages_have_walks
