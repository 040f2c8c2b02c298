use Rattle.generated_pages.proofs.Read.{lists_are_read}
use Rattle.generated_pages.proofs.laws.law_generated_lists_are_read.Goals as goal

pub returns : goal.returns
returns c = lists_are_read
