use Rattle.page_reader.proofs.OnePage.{page_once}
use Rattle.page_reader.proofs.laws.law_one_page.Goals as goal

pub returns : goal.returns
returns c = page_once
