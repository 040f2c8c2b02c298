use Rattle.std.proofs.Common.{sym, ◌∙◌, Err, true, false}
use Rattle.js_values.specs.declared.throw.Throw.TheVariants.{NotFunction}
use Rattle.page_meaning.specs.Errors.{raise}
use Rattle.page_meaning.specs.FunctionRows.{apply_to}
use Rattle.page_meaning.specs.ObjectRows.{argument}
use Rattle.step_call.proofs.Descending.{at_once}
use Rattle.step_call.proofs.Running.{asked_runs}
use Rattle.step_call.proofs.functions.apply.Goals as goal

pub returns-then-is_function : goal.returns-then-is_function
returns-then-is_function c =
    asked_runs c.args.callee.now (λ calls. apply_to calls c.args.callee.now (argument c.args.args.now 0) (argument c.args.args.now 1)) (λ _. raise NotFunction) true
    c.args.state.now c.apply_to.new.state c.args.meter.now c.apply_to.new.meter c.apply_to.result (sym c.if-is_function.true ∙ c.is_function.ensures)
    (rw (c.in_ok-this.ensures, c.in_ok-list.ensures) at c.apply_to.ensures)

pub returns-else-is_function : goal.returns-else-is_function
returns-else-is_function c =
    asked_runs c.args.callee.now (λ calls. apply_to calls c.args.callee.now (argument c.args.args.now 0) (argument c.args.args.now 1)) (λ _. raise NotFunction) false
    c.args.state.now c.raise-fault.new.self c.args.meter.now c.args.meter.now c.give.result (sym c.if-is_function.false ∙ c.is_function.ensures)
    (at_once (λ _. raise NotFunction) (Err c.raise-fault.result) c.args.state.now c.raise-fault.new.self c.args.meter.now c.give.result c.raise-fault.ensures c.give.ensures)
