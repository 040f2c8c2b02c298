use Rattle.step_assign.proofs.Naming.{assigned_opens, operated_opens}
use Rattle.step_assign.proofs.named.begin_assigned.Goals as goal

pub returns-in-None : goal.returns-in-None
returns-in-None c =
    assigned_opens c.args.spot c.args.name.now c.resolve-reference.result c.args.state.now c.run_right.new.state c.args.meter.now c.run_right.result c.env.result (rw c.in-None.is at c.requires) c.env.ensures c.resolve-reference.ensures
    c.run_right.ensures

pub read_named-requires : goal.read_named-requires
read_named-requires c = rw c.in-Some.is at c.requires

pub returns-in-Some : goal.returns-in-Some
returns-in-Some c =
    operated_opens c.args.spot c.in-Some.op c.args.name.now c.resolve-reference.result c.args.state.now c.read_named.new.state c.args.meter.now c.read_named.result c.env.result (rw c.in-Some.is at c.requires)
    c.env.ensures c.resolve-reference.ensures c.read_named.ensures
