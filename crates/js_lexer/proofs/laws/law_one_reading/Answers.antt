use Rattle.std.proofs.Common.{length}
use Rattle.js_lexer.proofs.AllTokens.{tokens_once}
use Rattle.js_lexer.proofs.laws.law_one_reading.Goals as goal

pub returns : goal.returns
returns c text = tokens_once (length text) text
