use Rattle.std.proofs.Common.{refl}
use Rattle.page_meaning.specs.Calls.{calls_at}
use Rattle.page_meaning.specs.Tasks.{top}
use Rattle.page_machine.proofs.Scripts.{name_if_called, name_threw}
use Rattle.page_machine.proofs.tasks.call_name.Goals as goal

pub returns-in-Ok : goal.returns-in-Ok
returns-in-Ok c =
    name_if_called (calls_at c.args.meter.now.depth) c.args.name.now c.args.state.now c.read_name.new.self c.call.new.state c.args.meter.now.steps c.call.new.meter.steps c.in-Ok.callee c.call.result (c.in-Ok.ensures top refl) c.call.ensures

pub returns-in-Err-Cause : goal.returns-in-Err-Cause
returns-in-Err-Cause c =
    name_threw (calls_at c.args.meter.now.depth) c.args.name.now c.args.state.now c.read_name.new.self c.args.meter.now.steps c.in-Err-Cause.value (rw c.in-Err-Cause.field-0-is at (c.in-Err-Cause.ensures top refl))
