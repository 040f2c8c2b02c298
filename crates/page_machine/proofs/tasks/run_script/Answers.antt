use Rattle.code_table.specs.Node.{body_of}
use Rattle.page_meaning.specs.Calls.{calls_at}
use Rattle.page_machine.proofs.Scripts.{script_if_ran, script_threw}
use Rattle.page_machine.proofs.tasks.run_script.Goals as goal

pub returns-in-Ok : goal.returns-in-Ok
returns-in-Ok c =
    script_if_ran (calls_at c.args.meter.now.depth) (body_of c.args.code) c.args.state.now c.declare.new.state c.run_body.new.state c.args.meter.now.steps c.run_body.new.meter.steps c.run_body.result c.in-Ok.ensures c.run_body.ensures

pub returns-in-Err-Cause : goal.returns-in-Err-Cause
returns-in-Err-Cause c =
    script_threw (calls_at c.args.meter.now.depth) (body_of c.args.code) c.args.state.now c.declare.new.state c.args.meter.now.steps c.in-Err-Cause.value (rw c.in-Err-Cause.field-0-is at c.in-Err-Cause.ensures)
