use Rattle.page_tokens.proofs.Callers.{stays}
use Rattle.page_tokens.proofs.laws.law_tokens_stay.Goals as goal

pub returns : goal.returns
returns c = stays
