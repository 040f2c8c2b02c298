use Rattle.std.proofs.Common.{◌≡◌, bytes_eq, length}
use Rattle.dom_tree.specs.Name.{folded}
use Rattle.page_reader.proofs.elements.is_word.Given as goal

abbrev pub invariant-loop-word : goal.invariant-loop-word
invariant-loop-word l = bytes_eq (folded l.text) l.word ≡ bytes_eq (folded l.fn.text) l.fn.word

abbrev pub decreases-loop-word : goal.decreases-loop-word
decreases-loop-word l = length l.word
