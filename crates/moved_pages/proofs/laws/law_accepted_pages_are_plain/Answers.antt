use Rattle.moved_pages.proofs.PlainPages.{accepted_plain}
use Rattle.moved_pages.proofs.laws.law_accepted_pages_are_plain.Goals as goal

pub returns : goal.returns
returns c = accepted_plain
