use Rattle.std.proofs.Common.{sym, ap, ◌∙◌, Err, true, false}
use Rattle.js_values.specs.declared.throw.Throw.TheVariants.{WrongArgument}
use Rattle.page_meaning.specs.Errors.{raise}
use Rattle.page_meaning.specs.FunctionRows.{is_callable}
use Rattle.step_parts.proofs.Callers.{gives_lower}
use Rattle.step_visit.proofs.Making.{asked_to_visit}
use Rattle.step_visit.proofs.visits.begin_on.Goals as goal

pub returns-then-not-is_function : goal.returns-then-not-is_function
returns-then-not-is_function c =
    asked_to_visit c.args.which c.args.args.now c.args.list c.in_ok-length.length false c.args.state.now c.raise-fault.new.self c.args.meter.now c.args.meter.now c.give.result c.in_ok-length.ensures
    (sym c.if-not-is_function.true ∙ c.is_function.ensures ∙ ap (λ v. is_callable v c.args.state.now) c.in_ok-callback.ensures)
    (gives_lower (λ _. raise WrongArgument) (Err c.raise-fault.result) 0 c.args.state.now c.raise-fault.new.self c.args.meter.now c.give.result c.raise-fault.ensures c.give.ensures)

pub returns : goal.returns
returns c =
    asked_to_visit c.args.which c.args.args.now c.args.list c.in_ok-length.length true c.args.state.now c.begin_list.new.state c.args.meter.now c.begin_list.new.meter c.begin_list.result c.in_ok-length.ensures
    (sym c.if-not-is_function.false ∙ c.is_function.ensures ∙ ap (λ v. is_callable v c.args.state.now) c.in_ok-callback.ensures)
    c.begin_list.ensures
