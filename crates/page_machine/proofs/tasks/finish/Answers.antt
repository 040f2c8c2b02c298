use Rattle.page_machine.proofs.Scripts.{stopped_told, uncaught_told}
use Rattle.page_machine.proofs.tasks.finish.Goals as goal

pub returns-in-Ended-Thrown : goal.returns-in-Ended-Thrown
returns-in-Ended-Thrown c =
    uncaught_told c.put_line.result c.args.end c.in-Ended-Thrown.value c.in_ok-text-in-Ended-Thrown.text c.args.state.now c.settle_events.new.self c.put_line.new.self
    (rw (← c.in-Ended-Thrown.field-0-is) c.in-Ended-Thrown.is) c.in_ok-text-in-Ended-Thrown.ensures c.settle_events.ensures c.put_line.ensures

pub returns : goal.returns
returns c =
    stopped_told c.put_line-in-Stopped.result c.args.end c.in_ok-of-in-Stopped.field-0 c.args.state.now c.settle_events-in-Stopped.new.self c.put_line-in-Stopped.new.self c.in-Stopped.is
    c.in_ok-of-in-Stopped.ensures c.settle_events-in-Stopped.ensures c.put_line-in-Stopped.ensures
