use Rattle.std.proofs.Common.{Err}
use Rattle.js_values.specs.declared.throw.Throw.TheVariants.{WrongArgument}
use Rattle.page_meaning.specs.Errors.{raise}
use Rattle.page_meaning.specs.FunctionRows.{bind_function}
use Rattle.step_call.proofs.Descending.{at_once}
use Rattle.step_call.proofs.Running.{other_functions}
use Rattle.step_call.proofs.functions.run_function.Goals as goal

pub returns-in-FunctionPrototypeCall : goal.returns-in-FunctionPrototypeCall
returns-in-FunctionPrototypeCall c = rw (c.in-FunctionPrototypeCall.is) (c.call_with.ensures c.args.state.now)

pub returns-in-FunctionPrototypeApply : goal.returns-in-FunctionPrototypeApply
returns-in-FunctionPrototypeApply c = rw (c.in-FunctionPrototypeApply.is) c.apply.ensures

pub returns-in-FunctionPrototypeBind : goal.returns-in-FunctionPrototypeBind
returns-in-FunctionPrototypeBind c =
    rw (c.in-FunctionPrototypeBind.is)
    (at_once (λ _. bind_function c.args.this.now c.args.args.now) c.bind.result c.args.state.now c.bind.new.state c.args.meter.now c.give.result c.bind.ensures c.give.ensures)

pub returns-in-ArrayPrototypeToString : goal.returns-in-ArrayPrototypeToString
returns-in-ArrayPrototypeToString c = rw (c.in-ArrayPrototypeToString.is) c.list_text.ensures

pub returns-in_default : goal.returns-in_default
returns-in_default c =
    other_functions c.args.which c.args.this.now c.args.args.now c.args.state.now c.raise-fault.new.self c.args.meter.now c.args.meter.now c.give-in_default.result
    c.in_default.not-FunctionPrototypeCall c.in_default.not-FunctionPrototypeApply c.in_default.not-FunctionPrototypeBind c.in_default.not-ArrayPrototypeToString
    (at_once (λ _. raise WrongArgument) (Err c.raise-fault.result) c.args.state.now c.raise-fault.new.self c.args.meter.now c.give-in_default.result c.raise-fault.ensures c.give-in_default.ensures)
