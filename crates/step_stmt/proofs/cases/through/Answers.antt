use Rattle.std.proofs.Common.{arith}
use Rattle.step_stmt.proofs.Switching.{bodies_done, body_then}
use Rattle.step_stmt.proofs.cases.through.Goals as goal

pub returns-then-index-case_count : goal.returns-then-index-case_count
returns-then-index-case_count c w = rw (c.nothing.ensures) (bodies_done c.args.spot c.args.index w c.args.meter.now c.requires (omega arith))

pub returns : goal.returns
returns c w =
    rw (c.in_ok-boxed.ensures, c.in_ok-body.ensures) (body_then c.args.spot c.args.value c.args.index c.part.result w c.args.meter.now c.requires (omega arith) (rw c.body_place.ensures at c.part.ensures))
