use Rattle.std.proofs.Common.{sym, ◌∙◌, Err}
use Rattle.js_values.specs.declared.throw.Throw.TheVariants.{WrongArgument}
use Rattle.page_meaning.specs.Errors.{raise}
use Rattle.page_meaning.specs.FunctionRows.{apply_elements}
use Rattle.page_frames.specs.Weight.{heavy}
use Rattle.step_parts.proofs.Callers.{on_no_list, on_the_list}
use Rattle.step_call.proofs.Descending.{at_once}
use Rattle.step_call.proofs.functions.apply_list.Goals as goal

pub returns-in-Some : goal.returns-in-Some
returns-in-Some c =
    on_the_list c.args.list.now (λ calls. apply_elements calls c.args.callee.now c.args.this) c.in-Some.at heavy c.args.state.now c.args.state.now c.args.meter.now c.apply_elements.new.meter
    c.apply_elements.result (sym c.in-Some.is ∙ c.as_list.ensures) c.apply_elements.ensures

pub returns-in-None : goal.returns-in-None
returns-in-None c =
    on_no_list c.args.list.now (λ calls. apply_elements calls c.args.callee.now c.args.this) heavy c.args.state.now c.raise-fault.new.self c.args.meter.now c.args.meter.now c.give.result (sym c.in-None.is ∙ c.as_list.ensures)
    (at_once (λ _. raise WrongArgument) (Err c.raise-fault.result) c.args.state.now c.raise-fault.new.self c.args.meter.now c.give.result c.raise-fault.ensures c.give.ensures)
