use Rattle.std.proofs.Common.{◌≤◌, length}
use Rattle.js_lexer.proofs.Literals.{GoesOn}
use Rattle.js_lexer.proofs.strings.string.Given as goal

abbrev pub invariant-loop-unit : goal.invariant-loop-unit
invariant-loop-unit l = GoesOn l.quote l.text l.rest l.units.items × (length l.rest ≤ length l.text)

abbrev pub decreases-loop-unit : goal.decreases-loop-unit
decreases-loop-unit l = length l.rest
