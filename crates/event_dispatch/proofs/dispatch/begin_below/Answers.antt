use Rattle.std.proofs.Common.{◌-◌, refl}
use Rattle.event_dispatch.proofs.Delivering.{begins_below}
use Rattle.event_dispatch.proofs.dispatch.begin_below.Goals as goal

pub returns : goal.returns
returns c =
    rw (c.in_ok-frame.ensures)
    (begins_below c.args.event c.args.node c.args.meter.now (record { steps = c.args.meter.now.steps; depth = c.args.meter.now.depth - 1 }) refl refl)
