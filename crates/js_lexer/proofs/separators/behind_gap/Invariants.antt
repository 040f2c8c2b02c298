use Rattle.std.proofs.Common.{◌≤◌, length}
use Rattle.js_lexer.proofs.Gaps.{GoesOn}
use Rattle.js_lexer.proofs.separators.behind_gap.Given as goal

abbrev pub invariant-loop-line : goal.invariant-loop-line
invariant-loop-line l = GoesOn l.text l.rest l.line_end × (length l.rest ≤ length l.text)

abbrev pub decreases-loop-line : goal.decreases-loop-line
decreases-loop-line l = length l.rest
