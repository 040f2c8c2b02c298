use Rattle.code_table.specs.Node.{body_of}
use Rattle.page_meaning.specs.Tasks.{Fires, Name, Passes, Script}
use Rattle.page_machine.proofs.Scripts.{task_done}
use Rattle.page_machine.proofs.tasks.run_task.Goals as goal

pub returns-in_ok-end-in-Script : goal.returns-in_ok-end-in-Script
returns-in_ok-end-in-Script c =
    rw c.in-Script.is
    (task_done c.finish.result (Script (body_of c.in-Script.code)) c.args.state.now c.run_script.new.state c.finish.new.state c.in_ok-end-in-Script.end c.run_script.new.meter.steps c.in_ok-end-in-Script.ensures c.finish.ensures)

pub returns-in_ok-end-in-Name : goal.returns-in_ok-end-in-Name
returns-in_ok-end-in-Name c =
    rw c.in-Name.is
    (task_done c.finish-in-Name.result (Name c.in-Name.name) c.args.state.now c.call_name.new.state c.finish-in-Name.new.state c.in_ok-end-in-Name.end c.call_name.new.meter.steps c.in_ok-end-in-Name.ensures c.finish-in-Name.ensures)

pub returns-in_ok-end-in-Fires : goal.returns-in_ok-end-in-Fires
returns-in_ok-end-in-Fires c =
    rw c.in-Fires.is
    (task_done c.finish-in-Fires.result (Fires c.in-Fires.kind c.in-Fires.bubbles c.in-Fires.cancelable c.in-Fires.node) c.args.state.now c.fire.new.state c.finish-in-Fires.new.state
    c.in_ok-end-in-Fires.end c.fire.new.meter.steps c.in_ok-end-in-Fires.ensures c.finish-in-Fires.ensures)

pub returns-in_ok-end-in-Passes : goal.returns-in_ok-end-in-Passes
returns-in_ok-end-in-Passes c =
    rw c.in-Passes.is
    (task_done c.finish-in-Passes.result (Passes c.in-Passes.time) c.args.state.now c.pass.new.state c.finish-in-Passes.new.state c.in_ok-end-in-Passes.end c.pass.new.meter.steps
    c.in_ok-end-in-Passes.ensures c.finish-in-Passes.ensures)
