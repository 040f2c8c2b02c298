use Rattle.std.proofs.Common.{arith}
use Rattle.js_lexer.proofs.Gaps.{gap_begins, gap_goes_on, gap_ends}
use Rattle.js_lexer.proofs.separators.behind_gap.Goals as goal

pub loop-line-init : goal.loop-line-init
loop-line-init c = (gap_begins _, omega arith)

pub loop-line-preserved : goal.loop-line-preserved
loop-line-preserved c = (gap_goes_on _ _ _ _ _ c.loop-line.invariant.0 c.in-Some.ensures.read, omega (arith, c.loop-line.invariant.1, c.in-Some.ensures.shorter))

pub returns-clause-read : goal.returns-clause-read
returns-clause-read c = gap_ends _ _ _ c.loop-line.invariant.0 c.in_default.ensures.read
