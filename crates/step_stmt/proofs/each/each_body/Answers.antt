use Rattle.step_stmt.proofs.Visiting.{each_runs}
use Rattle.step_stmt.proofs.each.each_body.Goals as goal

pub returns : goal.returns
returns c w = rw (c.in_ok-boxed.ensures, c.in_ok-body.ensures) (each_runs c.args.frame.spot c.args.frame.names c.args.frame.index c.part.result w c.args.meter.now c.part.ensures)
