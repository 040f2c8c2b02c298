use Rattle.js_lexer.proofs.LongestToken.{longest}
use Rattle.js_lexer.proofs.laws.law_tokens_are_longest.Goals as goal

pub returns : goal.returns
returns c = longest
