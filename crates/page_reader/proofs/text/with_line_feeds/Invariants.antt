use Rattle.std.proofs.Common.{◌≡◌, ◌++◌, length}
use Rattle.page_reader.specs.Text.{with_line_feeds}
use Rattle.page_reader.proofs.text.with_line_feeds.Given as goal

abbrev pub invariant-loop-rest : goal.invariant-loop-rest
invariant-loop-rest l = l.lines.items ++ with_line_feeds l.rest ≡ with_line_feeds l.units

abbrev pub decreases-loop-rest : goal.decreases-loop-rest
decreases-loop-rest l = length l.rest
