use Rattle.std.proofs.Common.{◌≡◌, ◌+◌, ◌≤◌, length}
use Rattle.page_tokens.specs.Characters.{place_of}
use Rattle.page_tokens.specs.Tags.{ends_raw_text}
use Rattle.page_tokens.proofs.tags.raw_text_len.Given as goal

abbrev pub invariant-loop-rest : goal.invariant-loop-rest
invariant-loop-rest l = (length l.rest + place_of (ends_raw_text l.name) l.text ≡ length l.text + place_of (ends_raw_text l.name) l.rest) × (length l.rest ≤ length l.text)

abbrev pub decreases-loop-rest : goal.decreases-loop-rest
decreases-loop-rest l = length l.rest
