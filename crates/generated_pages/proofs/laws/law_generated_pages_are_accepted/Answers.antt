use Rattle.generated_pages.proofs.Accepted.{pages_are_accepted}
use Rattle.generated_pages.proofs.laws.law_generated_pages_are_accepted.Goals as goal

pub returns : goal.returns
returns c = pages_are_accepted c.law_script_pages.ensures.bytes
