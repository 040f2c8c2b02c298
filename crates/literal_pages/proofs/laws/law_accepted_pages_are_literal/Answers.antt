use Rattle.literal_pages.proofs.Accepted.{accepted_pages_are_literal}
use Rattle.literal_pages.proofs.laws.law_accepted_pages_are_literal.Goals as goal

pub returns : goal.returns
returns c = accepted_pages_are_literal c.law_tokens_can_be_written.ensures
