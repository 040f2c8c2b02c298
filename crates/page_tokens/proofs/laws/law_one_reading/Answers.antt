use Rattle.std.proofs.Common.{length}
use Rattle.page_tokens.proofs.AllTokens.{tokens_once}
use Rattle.page_tokens.proofs.laws.law_one_reading.Goals as goal

pub returns : goal.returns
returns c text = tokens_once (length text) text
