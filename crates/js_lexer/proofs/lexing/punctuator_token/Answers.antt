use Rattle.js_lexer.specs.Tokens.TokenAt.{punctuator}
use Rattle.js_lexer.proofs.Firsts.{class_of_other}
use Rattle.js_lexer.proofs.OneToken.{punct_refused, shorter, other_unquoted}
use Rattle.js_lexer.proofs.lexing.punctuator_token.Goals as goal

pub returns-clause-read : goal.returns-clause-read
returns-clause-read c = punctuator _ _ _ c.in_ok-punct.ensures

pub returns-clause-shorter : goal.returns-clause-shorter
returns-clause-shorter c = shorter _ _ _ (returns-clause-read c) (other_unquoted _ c.requires.quote c.requires.digit c.requires.start)

pub returns-in_err-punct-clause-read : goal.returns-in_err-punct-clause-read
returns-in_err-punct-clause-read c =
    rw c.from_residual.ensures (punct_refused c.args.text.now (class_of_other c.args.text.now c.requires.quote c.requires.digit c.requires.start) c.in_err-punct.ensures)
