use Rattle.std.proofs.Common.{refl}
use Rattle.step_call.proofs.Running.{gathered_apply, gathering_halts}
use Rattle.step_call.proofs.functions.apply_elements.Goals as goal

pub returns-in-Ok : goal.returns-in-Ok
returns-in-Ok c =
    gathered_apply c.args.callee.now c.args.this c.args.list c.in_ok-length.length c.in-Ok.args c.args.state.now c.args.state.now c.args.meter.now
    (record { steps = c.gather-gathered.new.steps; depth = c.args.meter.now.depth }) c.call_on.new.meter c.call_on.result c.in_ok-length.ensures refl
    (rw c.in-Ok.is at c.gather-gathered.ensures) (c.call_on.ensures c.args.state.now)

pub returns-in-Err : goal.returns-in-Err
returns-in-Err c =
    gathering_halts c.args.callee.now c.args.this c.args.list c.in_ok-length.length c.in-Err.halt c.args.state.now c.args.meter.now
    (record { steps = c.gather-gathered.new.steps; depth = c.args.meter.now.depth }) c.stop.result c.in_ok-length.ensures (rw c.in-Err.is at c.gather-gathered.ensures) c.stop.ensures
