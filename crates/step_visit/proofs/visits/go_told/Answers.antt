use Rattle.step_visit.proofs.Going.{told_ends, told_on, told_throws}
use Rattle.step_visit.proofs.visits.go_told.Goals as goal

pub returns-in-Ok-Ends : goal.returns-in-Ok-Ends
returns-in-Ok-Ends c act s h =
    told_ends act c.args.visited c.args.index c.in-Ok-Ends.value s c.args.state.now c.args.meter.now c.give.result (rw (c.in-Ok-Ends.is, c.in-Ok-Ends.field-0-is) at h) c.give.ensures

pub returns-in_ok-next-in-Ok-GoesOn : goal.returns-in_ok-next-in-Ok-GoesOn
returns-in_ok-next-in-Ok-GoesOn c act s h =
    told_on act c.args.visited c.args.index c.in_ok-next-in-Ok-GoesOn.next c.in-Ok-GoesOn.visit s c.args.state.now c.args.meter.now c.advance.new.meter c.advance.result
    (rw (c.in-Ok-GoesOn.is, c.in-Ok-GoesOn.field-0-is) at h) c.in_ok-next-in-Ok-GoesOn.ensures c.advance.ensures

pub returns-in-Err : goal.returns-in-Err
returns-in-Err c act s h =
    told_throws act c.args.visited c.args.index c.in-Err.fault s c.args.state.now c.args.meter.now c.give-in-Err.result (rw c.in-Err.is at h) c.give-in-Err.ensures
