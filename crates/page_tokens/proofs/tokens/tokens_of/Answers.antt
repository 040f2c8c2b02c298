use Rattle.std.proofs.Common.{length, subst, sym, arith}
use Rattle.std.proofs.lemmas.Bool.Decides.{nat_tests}
use Rattle.page_tokens.proofs.AllTokens.{GoesOn, tokens_begin, tokens_end, tokens_go_on}
use Rattle.page_tokens.proofs.tokens.tokens_of.Goals as goal

pub loop-rest-init : goal.loop-rest-init
loop-rest-init c = (subst (GoesOn (length c.args.text.now) c.args.text.now c.args.text.now) (sym c.new-tokens.ensures.items) (tokens_begin _ c.args.text.now), omega arith)

pub loop-rest-preserved : goal.loop-rest-preserved
loop-rest-preserved c = (
  tokens_go_on _ _ _ _ _ _ _ c.loop-rest.invariant.0 c.in_ok-token.ensures.read c.in_ok-push.ensures.items,
  omega (arith, c.loop-rest.invariant.1, c.in_ok-token.ensures.shorter),
)

pub returns-clause-read : goal.returns-clause-read
returns-clause-read c = tokens_end _ _ _ _ c.loop-rest.invariant.0 (grind (arith, nat_tests))
