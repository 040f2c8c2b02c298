use Rattle.page_machine.proofs.Passing.{fires_if}
use Rattle.page_machine.proofs.tasks.fire_next.Goals as goal

pub returns : goal.returns
returns c =
    fires_if c.args.moment c.in-Some.function c.in_ok-end-in-Some.end c.put_end.result c.args.state.now c.fire_timer.new.self c.call_timer.new.state c.put_end.new.state c.args.meter.now
    c.take_step.new.meter c.call_timer.new.meter c.in-Some.ensures.due c.take_step.ensures.steps c.take_step.ensures.depth c.in_ok-end-in-Some.ensures.depth c.fire_timer.ensures.fired
    c.in_ok-end-in-Some.ensures.same c.put_end.ensures
