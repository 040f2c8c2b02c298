use Rattle.step_call.proofs.Descending.{object_built, object_called}
use Rattle.step_call.proofs.calls.run_object.Goals as goal

pub returns-then-call : goal.returns-then-call
returns-then-call c =
    object_built c.args.call.construct c.args.call.this c.args.call.args c.args.at c.args.state.now c.construct_object.new.state c.args.meter.now c.construct_object.new.meter
    c.construct_object.result c.if-call.true c.construct_object.ensures

pub returns-else-call : goal.returns-else-call
returns-else-call c =
    object_called c.args.call.construct c.args.call.this c.args.call.args c.args.at c.args.state.now c.call_object.new.state c.args.meter.now c.call_object.new.meter
    c.call_object.result c.if-call.false c.call_object.ensures
