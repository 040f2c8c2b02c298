use Rattle.page_meaning.specs.declared.signal.Signal.TheVariants.{Value as Val, Thrown}
use Rattle.step_call.proofs.Running.{turned_gives}
use Rattle.step_call.proofs.natives.give_turned.Goals as goal

pub returns-in-Ok : goal.returns-in-Ok
returns-in-Ok c act calls s t weight m m1 same h = turned_gives act calls s t weight m m1 (Val c.in-Ok.value) same (rw c.in-Ok.is at h)

pub returns-in-Err-Fault-Cause : goal.returns-in-Err-Fault-Cause
returns-in-Err-Fault-Cause c act calls s t weight m m1 same h =
    turned_gives act calls s t weight m m1 (Thrown c.in-Err-Fault-Cause.value) same
    (rw (c.in-Err-Fault-Cause.is, c.in-Err-Fault-Cause.field-0-is, c.in-Err-Fault-Cause.field-0-0-is) at h)
