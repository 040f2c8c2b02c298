use Rattle.std.proofs.Common.{◌-◌}
use Rattle.page_frames.specs.Where.{spot_node}
use Rattle.step_stmt.specs.Cases.{NoTest}
use Rattle.step_stmt.proofs.cases.next_test.Given as goal

abbrev pub invariant-loop-index : goal.invariant-loop-index
invariant-loop-index l = NoTest (spot_node l.spot) l.from l.index

abbrev pub decreases-loop-index : goal.decreases-loop-index
decreases-loop-index l = l.count - l.index
