use Rattle.std.proofs.Common.{sym, ◌∙◌, Err}
use Rattle.js_values.specs.declared.throw.Throw.TheVariants.{WrongArgument}
use Rattle.page_meaning.specs.Errors.{raise}
use Rattle.page_frames.specs.Weight.{heavy}
use Rattle.step_parts.proofs.Callers.{gives_lower}
use Rattle.event_dispatch.proofs.Delivering.{on_no_event, on_the_event}
use Rattle.event_dispatch.proofs.dispatch.begin_on.Goals as goal

pub returns-in-Some : goal.returns-in-Some
returns-in-Some c =
    on_the_event c.args.node c.args.value.now c.in-Some.event c.args.state.now c.args.meter.now c.begin_below.new.meter c.begin_below.result (sym c.in-Some.is ∙ c.event_of.ensures)
    c.begin_below.ensures

pub returns-in-None : goal.returns-in-None
returns-in-None c =
    on_no_event c.args.node c.args.value.now c.args.state.now c.raise-fault.new.self c.args.meter.now c.give.result (sym c.in-None.is ∙ c.event_of.ensures)
    (gives_lower (λ _. raise WrongArgument) (Err c.raise-fault.result) heavy c.args.state.now c.raise-fault.new.self c.args.meter.now c.give.result c.raise-fault.ensures c.give.ensures)
