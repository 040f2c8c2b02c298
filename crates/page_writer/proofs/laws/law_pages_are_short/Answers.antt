use Rattle.page_writer.proofs.Shortness.{pages_are_short}
use Rattle.page_writer.proofs.laws.law_pages_are_short.Goals as goal

pub returns : goal.returns
returns c = pages_are_short
