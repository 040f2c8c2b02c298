use Rattle.std.proofs.Common.{sym, ◌∙◌, Err}
use Rattle.js_values.specs.declared.throw.Throw.TheVariants.{WrongArgument}
use Rattle.page_meaning.specs.Errors.{raise}
use Rattle.page_meaning.specs.ObjectRows.{argument}
use Rattle.page_frames.specs.Weight.{heavy}
use Rattle.step_parts.proofs.Callers.{gives_lower}
use Rattle.event_dispatch.specs.Turning.{deliver_value}
use Rattle.event_dispatch.proofs.Delivering.{on_no_node, on_the_node}
use Rattle.event_dispatch.proofs.dispatch.begin_row.Goals as goal

pub returns-in_ok-value-in-Some : goal.returns-in_ok-value-in-Some
returns-in_ok-value-in-Some c =
    on_the_node c.args.this.now (λ calls k. deliver_value k (argument c.args.args.now 0) calls) c.in-Some.node c.args.state.now c.begin_on.new.state c.args.meter.now c.begin_on.new.meter
    c.begin_on.result (sym c.in-Some.is ∙ c.node_of.ensures) (rw c.in_ok-value-in-Some.ensures at c.begin_on.ensures)

pub returns-in-None : goal.returns-in-None
returns-in-None c =
    on_no_node c.args.this.now (λ calls k. deliver_value k (argument c.args.args.now 0) calls) c.args.state.now c.raise-fault.new.self c.args.meter.now c.give.result
    (sym c.in-None.is ∙ c.node_of.ensures)
    (gives_lower (λ _. raise WrongArgument) (Err c.raise-fault.result) heavy c.args.state.now c.raise-fault.new.self c.args.meter.now c.give.result c.raise-fault.ensures c.give.ensures)
