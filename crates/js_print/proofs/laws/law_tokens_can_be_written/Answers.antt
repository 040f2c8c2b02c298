use Rattle.js_print.proofs.WrittenTokens.{tokens_can_be_written}
use Rattle.js_print.proofs.laws.law_tokens_can_be_written.Goals as goal

pub returns : goal.returns
returns c = tokens_can_be_written
