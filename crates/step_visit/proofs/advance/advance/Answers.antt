use Rattle.std.proofs.Common.{refl}
use Rattle.step_visit.proofs.Going.{to_element, to_end, to_halt}
use Rattle.step_visit.proofs.advance.advance.Goals as goal

pub returns-in-Ok-Some : goal.returns-in-Ok-Some
returns-in-Ok-Some c =
    to_element c.args.visited c.args.visit c.args.start c.args.state.now c.args.meter.now (record { steps = c.next_element-found.new.steps; depth = c.args.meter.now.depth })
    c.call_for.new.meter (c.in-Ok-Some.index, c.in-Ok-Some.element) c.call_for.result refl (rw (c.in-Ok-Some.is, c.in-Ok-Some.field-0-is) at c.next_element-found.ensures) c.call_for.ensures

pub returns-in-Ok-None : goal.returns-in-Ok-None
returns-in-Ok-None c =
    rw (c.past_last.ensures)
    (to_end c.args.visited c.args.visit c.args.start c.args.state.now c.args.meter.now (record { steps = c.next_element-found.new.steps; depth = c.args.meter.now.depth }) refl
    (rw (c.in-Ok-None.is, c.in-Ok-None.field-0-is) at c.next_element-found.ensures))

pub returns-in-Err : goal.returns-in-Err
returns-in-Err c =
    to_halt c.args.visited c.args.visit c.args.start c.in-Err.halt c.args.state.now c.args.meter.now (record { steps = c.next_element-found.new.steps; depth = c.args.meter.now.depth })
    c.stop.result (rw c.in-Err.is at c.next_element-found.ensures) c.stop.ensures
