use Rattle.page_state.proofs.Callers.{given}
use Rattle.step_assign.proofs.named.put_assigned.Goals as goal

pub returns-in-None : goal.returns-in-None
returns-in-None c = rw c.in-None.is c.put_name.ensures

pub returns-in-None-old : goal.returns-in-None-old
returns-in-None-old c = rw (c.in-Some.is, c.in-None-old.is) (given c.args.value c.args.state.now)

pub returns-in-Some-old : goal.returns-in-Some-old
returns-in-Some-old c = rw (c.in-Some.is, c.in-Some-old.is) c.put_operated.ensures
