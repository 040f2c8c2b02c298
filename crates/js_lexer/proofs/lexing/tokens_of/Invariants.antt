use Rattle.std.proofs.Common.{◌≤◌, length}
use Rattle.js_lexer.proofs.AllTokens.{GoesOn}
use Rattle.js_lexer.proofs.lexing.tokens_of.Given as goal

abbrev pub invariant-loop-start : goal.invariant-loop-start
invariant-loop-start l = GoesOn (length l.text) l.text l.rest l.tokens.items × (length l.rest ≤ length l.text)

abbrev pub decreases-loop-start : goal.decreases-loop-start
decreases-loop-start l = length l.rest
