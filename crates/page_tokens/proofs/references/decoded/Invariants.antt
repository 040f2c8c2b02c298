use Rattle.std.proofs.Common.{length}
use Rattle.page_tokens.proofs.Decoding.{GoesOn}
use Rattle.page_tokens.proofs.references.decoded.Given as goal

abbrev pub invariant-loop-rest : goal.invariant-loop-rest
invariant-loop-rest l = GoesOn l.text l.rest l.units.items

abbrev pub decreases-loop-rest : goal.decreases-loop-rest
decreases-loop-rest l = length l.rest
