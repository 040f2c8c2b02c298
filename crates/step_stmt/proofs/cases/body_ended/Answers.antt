use Rattle.std.proofs.Common.{arith}
use Rattle.step_stmt.proofs.Switching.{bodies_later, bodies_over}
use Rattle.step_stmt.proofs.cases.body_ended.Goals as goal

pub returns-then-index-case_count : goal.returns-then-index-case_count
returns-then-index-case_count c w = bodies_later c.args.spot c.args.index _ w c.args.meter.now c.through.result c.requires (omega arith) (c.through.ensures w)

pub returns-else-index-case_count : goal.returns-else-index-case_count
returns-else-index-case_count c w = rw (c.nothing.ensures) (bodies_over c.args.spot c.args.index w c.args.meter.now c.requires (omega arith))
