use Rattle.std.proofs.Common.{refl}
use Rattle.step_visit.proofs.Going.{first_found, none_first, first_halts}
use Rattle.step_visit.proofs.visits.reduce_from.Goals as goal

pub returns-in_ok-further-in-Ok-Some : goal.returns-in_ok-further-in-Ok-Some
returns-in_ok-further-in-Ok-Some c =
    first_found c.args.visited c.args.state.now c.args.state.now c.args.meter.now (record { steps = c.next_element-found.new.steps; depth = c.args.meter.now.depth }) c.advance.new.meter
    (c.in-Ok-Some.index, c.in-Ok-Some.element) c.in_ok-further-in-Ok-Some.field-0 c.advance.result refl c.requires.this (rw (c.in-Ok-Some.is, c.in-Ok-Some.field-0-is) at c.next_element-found.ensures)
    c.in_ok-further-in-Ok-Some.ensures c.advance.ensures

pub returns-in-Ok-None : goal.returns-in-Ok-None
returns-in-Ok-None c =
    none_first c.args.visited c.raise-fault.result c.args.state.now c.raise-fault.new.self c.args.meter.now
    (record { steps = c.next_element-found.new.steps; depth = c.args.meter.now.depth }) c.give.result refl c.requires.this
    (rw (c.in-Ok-None.is, c.in-Ok-None.field-0-is) at c.next_element-found.ensures) c.raise-fault.ensures c.give.ensures

pub returns-in-Err : goal.returns-in-Err
returns-in-Err c =
    first_halts c.args.visited c.in-Err.halt c.args.state.now c.args.meter.now (record { steps = c.next_element-found.new.steps; depth = c.args.meter.now.depth }) c.stop.result c.requires.this
    (rw c.in-Err.is at c.next_element-found.ensures) c.stop.ensures
