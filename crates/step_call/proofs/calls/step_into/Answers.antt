use Rattle.step_call.proofs.Beginning.{no_level}
use Rattle.step_call.proofs.calls.step_into.Goals as goal

pub returns-then-meter-eq0-2 : goal.returns-then-meter-eq0-2
returns-then-meter-eq0-2 c =
    no_level c.args.call c.args.state.now c.raise-fault.new.self c.args.meter.now c.take_step.new.meter c.raise-fault.result c.give.result c.take_step.ensures.steps
    c.take_step.ensures.depth c.if-meter-eq0-2.true c.raise-fault.ensures c.give.ensures
