use Rattle.std.proofs.Common.{◌∙◌, sym}
use Rattle.js_lexer.proofs.Longest.{first_within, stands_here, no_punctuator}
use Rattle.js_lexer.proofs.punctuators.punctuator.Goals as goal

pub split_at-requires : goal.split_at-requires
split_at-requires c = first_within _ _ c.in_ok-punct.punct c.text.ensures c.in_ok-punct.ensures

pub returns : goal.returns
returns c = stands_here _ _ _ c.in_ok-punct.punct c.text.ensures c.in_ok-punct.ensures c.split_at.ensures.back (sym c.opens_comment.ensures ∙ c.if-opens_comment.false)

pub returns-in_err-punct : goal.returns-in_err-punct
returns-in_err-punct c = rw c.from_residual.ensures (no_punctuator c.args.text.now (sym c.in_err-punct.ensures))
