use Rattle.std.proofs.Common.{arith}
use Rattle.step_stmt.proofs.InTurn.{block_ends, block_runs}
use Rattle.step_stmt.proofs.blocks.block_from.Goals as goal

pub returns-then-k-part_count : goal.returns-then-k-part_count
returns-then-k-part_count c = block_runs c.args.spot c.args.k c.args.state.now c.args.meter.now c.run_nth.result c.requires (omega arith) c.run_nth.ensures

pub returns-else-k-part_count : goal.returns-else-k-part_count
returns-else-k-part_count c = rw (c.nothing.ensures) (block_ends c.args.spot c.args.k c.args.state.now c.args.meter.now c.requires (omega arith))
