use Rattle.std.proofs.Common.{◌-◌, refl}
use Rattle.step_visit.proofs.Going.{calls_for}
use Rattle.step_visit.proofs.advance.call_for.Goals as goal

pub returns : goal.returns
returns c =
    rw (c.in_ok-frame.ensures)
    (calls_for c.args.visited c.args.visit c.args.index c.args.element c.in_ok-call.call c.args.meter.now (record { steps = c.args.meter.now.steps; depth = c.args.meter.now.depth - 1 })
    (rw (c.in_ok-call.ensures, c.in_ok-clone.ensures, c.in_ok-this_of.ensures, c.in_ok-arguments_of.ensures) refl) refl refl)
