use Rattle.step_assign.proofs.Changing.{right_waits}
use Rattle.step_assign.proofs.changes.run_right.Goals as goal

pub returns-in-None : goal.returns-in-None
returns-in-None c =
    rw c.in-None.is
    (right_waits c.args.spot c.args.base.now c.args.name c.args.state.now c.args.meter.now c.run_named.result (rw c.in-None.is at c.requires) c.run_named.ensures)

pub read_named-requires : goal.read_named-requires
read_named-requires c = rw c.in-Some.is at c.requires

pub returns-in-Some : goal.returns-in-Some
returns-in-Some c = rw c.in-Some.is c.read_named.ensures
