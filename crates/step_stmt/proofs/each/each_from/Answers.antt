use Rattle.step_stmt.proofs.Visiting.{each_done, each_stops, each_taken}
use Rattle.step_stmt.proofs.each.each_from.Goals as goal

pub returns-in-None : goal.returns-in-None
returns-in-None c = rw (c.nothing.ensures) (each_done c.args.spot c.args.names c.args.index c.args.state.now c.args.meter.now (rw c.in-None.is at c.in_ok-name_at.ensures))

pub returns-then-meter-eq0 : goal.returns-then-meter-eq0
returns-then-meter-eq0 c =
    each_stops c.args.spot c.args.names c.args.index (c.in-Some.holder, c.in-Some.name) c.args.state.now c.args.meter.now (rw c.in-Some.is at c.in_ok-name_at.ensures) c.if-meter-eq0.true

pub returns-else-meter-eq0 : goal.returns-else-meter-eq0
returns-else-meter-eq0 c =
    each_taken c.args.spot c.args.names c.args.index c.in-Some.holder c.in-Some.name c.args.state.now c.args.meter.now c.take_step.new.meter c.each_name.result c.is_small.ensures (rw c.in-Some.is at c.in_ok-name_at.ensures)
    c.take_step.ensures.steps c.take_step.ensures.depth c.each_name.ensures
