use Rattle.std.proofs.Common.{◌≡◌, ◌+◌, ◌≤◌, length}
use Rattle.page_tokens.specs.Characters.{place_of}
use Rattle.page_tokens.specs.Tags.{closes_comment}
use Rattle.page_tokens.proofs.tags.comment_len.Given as goal

abbrev pub invariant-loop-rest : goal.invariant-loop-rest
invariant-loop-rest l = (length l.rest + place_of closes_comment l.text ≡ length l.text + place_of closes_comment l.rest) × (length l.rest ≤ length l.text)

abbrev pub decreases-loop-rest : goal.decreases-loop-rest
decreases-loop-rest l = length l.rest
