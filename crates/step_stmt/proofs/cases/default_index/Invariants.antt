use Rattle.page_frames.specs.Where.{spot_node}
use Rattle.step_stmt.specs.Cases.{NoDefault}
use Rattle.step_stmt.proofs.cases.default_index.Given as goal

abbrev pub invariant-loop-index : goal.invariant-loop-index
invariant-loop-index l = NoDefault (spot_node l.spot) l.index

abbrev pub decreases-loop-index : goal.decreases-loop-index
decreases-loop-index l = l.index
