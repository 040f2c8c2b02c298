use Rattle.step_stmt.proofs.Visiting.{each_assigned, each_on, each_over, each_passes}
use Rattle.step_stmt.proofs.each.go_each.Goals as goal

pub returns-in-None : goal.returns-in-None
returns-in-None c =
    each_on c.args.frame.spot c.args.frame.names c.args.frame.index c.args.frame.assigning c.args.end c.loop_end.result c.args.state.now c.args.meter.now c.each_after.new.meter c.each_after.result c.if-frame.false
    c.loop_end.ensures c.in-None.is c.each_after.ensures

pub returns-in-Value : goal.returns-in-Value
returns-in-Value c =
    each_assigned c.args.frame.spot c.args.frame.names c.args.frame.index c.args.frame.assigning c.args.end c.in-Value.field-0 c.args.state.now c.args.meter.now c.each_body.result c.if-frame.true c.in-Value.is
    (c.each_body.ensures c.args.state.now)

pub returns-in-Some : goal.returns-in-Some
returns-in-Some c =
    each_over c.args.frame.spot c.args.frame.names c.args.frame.index c.args.frame.assigning c.args.end c.in-Some.last c.loop_end.result c.args.state.now c.args.meter.now c.if-frame.false c.loop_end.ensures c.in-Some.is

pub returns-in_default : goal.returns-in_default
returns-in_default c =
    each_passes c.args.frame.spot c.args.frame.names c.args.frame.index c.args.frame.assigning c.args.end c.args.state.now c.args.meter.now c.if-frame.true c.in_default.not-Value
