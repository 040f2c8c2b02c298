use Rattle.std.proofs.Common.{arith}
use Rattle.step_stmt.proofs.Switching.{count_is}
use Rattle.page_frames.specs.Where.{spot_node}
use Rattle.step_stmt.proofs.cases.case_count.Goals as goal

pub returns-clause-count : goal.returns-clause-count
returns-clause-count c = omega (arith, count_is (spot_node c.args.spot.now) c.requires, c.part_count.ensures)
