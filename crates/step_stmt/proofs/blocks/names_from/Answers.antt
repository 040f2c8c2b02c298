use Rattle.std.proofs.Common.{arith}
use Rattle.step_stmt.proofs.InTurn.{names_done, names_run}
use Rattle.step_stmt.proofs.blocks.names_from.Goals as goal

pub returns-then-k-part_count : goal.returns-then-k-part_count
returns-then-k-part_count c = names_run c.args.spot c.args.k c.args.state.now c.args.meter.now c.run_statement.result c.requires (omega arith) c.run_statement.ensures

pub returns-else-k-part_count : goal.returns-else-k-part_count
returns-else-k-part_count c = rw (c.nothing.ensures) (names_done c.args.spot c.args.k c.args.state.now c.args.meter.now c.requires (omega arith))
