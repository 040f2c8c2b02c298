use Rattle.std.proofs.Common.{length}
use Rattle.js_lexer.proofs.Prologue.{GoesOn}
use Rattle.js_lexer.proofs.directives.strict.Given as goal

abbrev pub invariant-loop-token : goal.invariant-loop-token
invariant-loop-token l = GoesOn l.tokens l.rest

abbrev pub decreases-loop-token : goal.decreases-loop-token
decreases-loop-token l = length l.rest
