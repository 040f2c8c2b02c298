use Rattle.std.proofs.Common.{sym, ◌∙◌, ◌^◌}
use Rattle.js_values.specs.declared.throw.Throw.TheVariants.{UnspecifiedEventType}
use Rattle.page_meaning.specs.Errors.{raise}
use Rattle.event_dispatch.proofs.Delivering.{begins_not, begins_once}
use Rattle.event_dispatch.proofs.dispatch.begin_deliver.Goals as goal

pub returns-then-may_begin : goal.returns-then-may_begin
returns-then-may_begin c =
    begins_once c.args.event c.args.node c.args.state.now c.dispatch.new.state c.args.meter.now c.dispatch.result (sym c.if-may_begin.true ∙ c.may_begin.ensures) c.dispatch.ensures

pub returns-else-may_begin : goal.returns-else-may_begin
returns-else-may_begin c =
    begins_not c.args.event c.args.node c.args.state.now c.raise-fault.new.self c.args.meter.now c.give.result (sym c.if-may_begin.false ∙ c.may_begin.ensures)
    (c.give.ensures (λ _. raise UnspecifiedEventType) c.args.state.now c.raise-fault.new.self (2 ^ 129) c.args.meter.now c.raise-fault.ensures)
