use Rattle.written_pages.proofs.Pages.{pages_stay_literal}
use Rattle.written_pages.proofs.laws.law_pages_are_literal.Goals as goal

pub returns : goal.returns
returns c = pages_stay_literal
