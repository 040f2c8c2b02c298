use Rattle.std.proofs.Common.{length, subst, sym, arith, rules}
use Rattle.js_lexer.proofs.AllTokens.{GoesOn, tokens_begin, tokens_go_on, tokens_end}
use Rattle.js_lexer.proofs.lexing.tokens_of.Goals as goal

pub loop-start-init : goal.loop-start-init
loop-start-init c = (subst (GoesOn (length c.args.text.now) c.args.text.now c.args.text.now) (sym c.new-tokens.ensures.items) (tokens_begin _ c.args.text.now), omega arith)

pub loop-start-preserved : goal.loop-start-preserved
loop-start-preserved c = (
  tokens_go_on _ _ _ _ _ _ _ _ _ c.loop-start.invariant.0 c.behind_gap-after_line.ensures.read c.in_ok-what.ensures.read c.in_ok-push.ensures.items,
  omega (arith, c.loop-start.invariant.1, c.behind_gap-after_line.ensures.within, c.in_ok-what.ensures.shorter),
)

pub returns-then-is_empty-clause-read : goal.returns-then-is_empty-clause-read
returns-then-is_empty-clause-read c = tokens_end _ _ _ _ _ _ c.loop-start.invariant.0 c.behind_gap-after_line.ensures.read (search rules)
