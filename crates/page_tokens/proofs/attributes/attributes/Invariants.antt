use Rattle.std.proofs.Common.{◌≤◌, length}
use Rattle.page_tokens.proofs.Listing.{GoesOn}
use Rattle.page_tokens.proofs.attributes.attributes.Given as goal

abbrev pub invariant-loop-name : goal.invariant-loop-name
invariant-loop-name l = GoesOn l.text l.rest l.all × (length l.rest ≤ length l.text)

abbrev pub decreases-loop-name : goal.decreases-loop-name
decreases-loop-name l = length l.rest
