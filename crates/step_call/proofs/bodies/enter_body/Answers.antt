use Rattle.std.proofs.Common.{◌-◌, refl}
use Rattle.step_call.proofs.Descending.{body_enters}
use Rattle.step_call.proofs.bodies.enter_body.Goals as goal

pub returns : goal.returns
returns c =
    rw (c.in_ok-boxed.ensures) (body_enters c.args.code c.args.env c.args.this c.args.args.now c.args.fresh c.in_ok-scope.scope c.in_ok-body.body c.args.state.now c.enter.new.self c.args.meter.now
    (record { steps = c.args.meter.now.steps; depth = c.args.meter.now.depth - 1 }) (rw c.as_slice.ensures at c.in_ok-scope.ensures) c.in_ok-body.ensures.code
    c.in_ok-body.ensures.env c.in_ok-body.ensures.this c.in_ok-body.ensures.node c.is_small.ensures refl refl)
