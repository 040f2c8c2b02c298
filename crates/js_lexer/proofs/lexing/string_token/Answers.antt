use Rattle.js_lexer.proofs.OneToken.{string_stands}
use Rattle.js_lexer.proofs.lexing.string_token.Goals as goal

pub returns-clause-read : goal.returns-clause-read
returns-clause-read c = string_stands _ _ _ c.in-len1-up.len_at_least c.requires c.in_ok-value.ensures.read
