use Rattle.std.proofs.Common.{◌≤◌, length}
use Rattle.page_tokens.proofs.AllTokens.{GoesOn}
use Rattle.page_tokens.proofs.tokens.tokens_of.Given as goal

abbrev pub invariant-loop-rest : goal.invariant-loop-rest
invariant-loop-rest l = GoesOn (length l.text) l.text l.rest l.tokens.items × (length l.rest ≤ length l.text)

abbrev pub decreases-loop-rest : goal.decreases-loop-rest
decreases-loop-rest l = length l.rest
