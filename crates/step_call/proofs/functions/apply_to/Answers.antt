use Rattle.step_call.proofs.Running.{lists_apply}
use Rattle.step_call.proofs.functions.apply_to.Goals as goal

pub returns-in-Undefined : goal.returns-in-Undefined
returns-in-Undefined c = rw (c.in-Undefined.is) (c.call_without.ensures c.args.state.now)

pub returns-in-Null : goal.returns-in-Null
returns-in-Null c = rw (c.in-Null.is) (c.call_without-in-Null.ensures c.args.state.now)

pub returns-in_default : goal.returns-in_default
returns-in_default c =
    lists_apply c.args.callee.now c.args.this c.args.list.now c.args.state.now c.apply_list.new.state c.args.meter.now c.apply_list.new.meter c.apply_list.result
    c.in_default.not-Undefined c.in_default.not-Null c.apply_list.ensures
