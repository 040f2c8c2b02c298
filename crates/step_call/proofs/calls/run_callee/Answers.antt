use Rattle.step_call.proofs.Descending.{object_runs, value_refused}
use Rattle.step_call.proofs.calls.run_callee.Goals as goal

pub returns-in-Object : goal.returns-in-Object
returns-in-Object c =
    object_runs c.args.call.construct c.args.call.callee c.args.call.this c.args.call.args c.in-Object.at c.args.state.now c.run_object.new.state c.args.meter.now
    c.run_object.new.meter c.run_object.result c.in-Object.is c.run_object.ensures

pub returns-in_default : goal.returns-in_default
returns-in_default c =
    value_refused c.args.call.construct c.args.call.callee c.args.call.this c.args.call.args c.args.state.now c.raise-fault.new.self c.args.meter.now c.raise-fault.result
    c.give.result c.in_default.not-Object c.raise-fault.ensures c.give.ensures
