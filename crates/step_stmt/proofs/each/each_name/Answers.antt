use Rattle.step_stmt.proofs.Visiting.{each_gone}
use Rattle.step_stmt.proofs.each.each_name.Goals as goal

pub returns-in_ok-boxed-2 : goal.returns-in_ok-boxed-2
returns-in_ok-boxed-2 c =
    rw (c.in_ok-boxed-2.ensures) (each_gone c.args.spot c.args.names c.args.index c.args.holder c.args.name c.args.state.now c.args.meter.now c.if-is_held.ensures)
