use Rattle.std.proofs.Common.{suc, add-one, arith}
use Rattle.step_stmt.proofs.InTurn.{block_ends}
use Rattle.step_stmt.proofs.blocks.block_after.Goals as goal

pub returns-then-k-part_count : goal.returns-then-k-part_count
returns-then-k-part_count c = rw add-one at c.block_from.ensures

pub returns-else-k-part_count : goal.returns-else-k-part_count
returns-else-k-part_count c = rw (c.nothing.ensures) (block_ends c.args.spot (suc c.args.k) c.args.state.now c.args.meter.now c.requires (omega arith))
