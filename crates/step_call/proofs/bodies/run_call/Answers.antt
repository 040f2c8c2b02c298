use Rattle.std.proofs.Common.{◌-◌, refl}
use Rattle.step_call.proofs.Descending.{bound_calls}
use Rattle.step_call.proofs.bodies.run_call.Goals as goal

pub returns : goal.returns
returns c w =
    rw (c.in_ok-boxed.ensures, c.in_ok-call.ensures)
    (bound_calls c.args.call c.args.call.construct c.args.call.callee c.args.call.this c.args.call.args w c.args.meter.now
    (record { steps = c.args.meter.now.steps; depth = c.args.meter.now.depth - 1 }) refl refl refl)
