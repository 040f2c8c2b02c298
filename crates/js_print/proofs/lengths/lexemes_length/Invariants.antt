use Rattle.std.proofs.Common.{◌≡◌, ◌+◌, length}
use Rattle.js_print.specs.Spelling.{text_after, text_of}
use Rattle.js_print.proofs.lengths.lexemes_length.Given as goal

abbrev pub invariant-loop-rest : goal.invariant-loop-rest
invariant-loop-rest l = l.bytes + length (text_after l.after_word l.rest) ≡ length (text_of l.lexemes)

abbrev pub decreases-loop-rest : goal.decreases-loop-rest
decreases-loop-rest l = length l.rest
