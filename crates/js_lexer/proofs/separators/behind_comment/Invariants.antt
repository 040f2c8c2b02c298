use Rattle.std.proofs.Common.{◌≡◌, ◌≤◌, length}
use Rattle.js_lexer.specs.Separators.{behind_comment, with_line_end}
use Rattle.js_lexer.proofs.separators.behind_comment.Given as goal

abbrev pub invariant-loop-rest : goal.invariant-loop-rest
invariant-loop-rest l = (with_line_end l.line_end (behind_comment l.rest) ≡ behind_comment l.text) × (length l.rest ≤ length l.text)

abbrev pub decreases-loop-rest : goal.decreases-loop-rest
decreases-loop-rest l = length l.rest
