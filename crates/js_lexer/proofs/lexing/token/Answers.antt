use Rattle.js_lexer.proofs.OneToken.{nothing_at_end}
use Rattle.js_lexer.proofs.lexing.token.Goals as goal

pub returns-in_default-clause-refused : goal.returns-in_default-clause-refused
returns-in_default-clause-refused c rest what = nothing_at_end c.args.text.now rest what c.in_default.len_below
