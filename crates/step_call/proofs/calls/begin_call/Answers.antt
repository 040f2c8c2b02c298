use Rattle.js_values.specs.declared.throw.Throw.TheVariants.{NotFunction}
use Rattle.page_meaning.specs.Errors.{raise}
use Rattle.step_call.proofs.Beginning.{may_begin, no_begin}
use Rattle.step_call.proofs.calls.begin_call.Goals as goal

pub returns-then-may_run : goal.returns-then-may_run
returns-then-may_run c =
    may_begin c.args.call c.args.state.now c.step_into.new.state c.args.meter.now c.step_into.new.meter c.step_into.result c.if-may_run.ensures c.step_into.ensures

pub returns-else-may_run : goal.returns-else-may_run
returns-else-may_run c =
    no_begin c.args.call c.args.state.now c.raise-fault.new.self c.args.meter.now c.give.result c.if-may_run.ensures
    (c.give.ensures (λ _. raise NotFunction) c.args.state.now c.raise-fault.new.self 0 c.args.meter.now c.raise-fault.ensures)
