use Rattle.std.proofs.Common.{◌≡◌, bytes_eq, length}
use Rattle.page_tokens.proofs.references.is_word.Given as goal

abbrev pub invariant-loop-word : goal.invariant-loop-word
invariant-loop-word l = bytes_eq l.text l.word ≡ bytes_eq l.fn.text l.fn.word

abbrev pub decreases-loop-word : goal.decreases-loop-word
decreases-loop-word l = length l.word
