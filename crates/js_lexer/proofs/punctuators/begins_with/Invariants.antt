use Rattle.std.proofs.Common.{◌≡◌, length}
use Rattle.js_lexer.specs.Reading.{is_front}
use Rattle.js_lexer.proofs.punctuators.begins_with.Given as goal

abbrev pub invariant-loop-codes : goal.invariant-loop-codes
invariant-loop-codes l = is_front l.codes l.text ≡ is_front l.fn.codes l.fn.text

abbrev pub decreases-loop-codes : goal.decreases-loop-codes
decreases-loop-codes l = length l.codes
