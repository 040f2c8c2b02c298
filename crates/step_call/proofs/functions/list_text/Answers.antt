use Rattle.std.proofs.Common.{sym, ◌∙◌, Err}
use Rattle.js_values.specs.declared.throw.Throw.TheVariants.{WrongArgument}
use Rattle.page_meaning.specs.Errors.{raise}
use Rattle.page_meaning.specs.FunctionRows.{list_text}
use Rattle.page_frames.specs.Weight.{heavy}
use Rattle.step_parts.proofs.Callers.{on_no_list, on_the_list}
use Rattle.step_call.proofs.Descending.{at_once}
use Rattle.step_call.proofs.Running.{makes_text}
use Rattle.step_call.proofs.functions.list_text.Goals as goal

pub returns-in_ok-maker-in-Some : goal.returns-in_ok-maker-in-Some
returns-in_ok-maker-in-Some c =
    on_the_list c.args.this.now (λ calls. list_text calls) c.in-Some.list heavy c.args.state.now c.args.state.now c.args.meter.now c.call_without.new.meter
    c.call_without.result (sym c.in-Some.is ∙ c.as_list.ensures)
    (makes_text c.in-Some.list c.in_ok-maker-in-Some.maker c.args.state.now c.args.state.now c.args.meter.now c.call_without.new.meter c.call_without.result c.in_ok-maker-in-Some.ensures
    (c.call_without.ensures c.args.state.now))

pub returns-in-None : goal.returns-in-None
returns-in-None c =
    on_no_list c.args.this.now (λ calls. list_text calls) heavy c.args.state.now c.raise-fault.new.self c.args.meter.now c.args.meter.now c.give.result (sym c.in-None.is ∙ c.as_list.ensures)
    (at_once (λ _. raise WrongArgument) (Err c.raise-fault.result) c.args.state.now c.raise-fault.new.self c.args.meter.now c.give.result c.raise-fault.ensures c.give.ensures)
