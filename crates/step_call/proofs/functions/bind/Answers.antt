use Rattle.std.proofs.Common.{sym, ◌∙◌}
use Rattle.step_call.proofs.Running.{may_bind, may_not_bind, none_to_bind}
use Rattle.step_call.proofs.functions.bind.Goals as goal

pub returns-then-is_function : goal.returns-then-is_function
returns-then-is_function c =
    may_bind c.args.target.now c.in-Object.at c.args.args.now c.args.state.now c.bind_to.new.state c.bind_to.result c.in-Object.is
    (sym c.if-is_function.true ∙ c.is_function.ensures) c.bind_to.ensures

pub returns-else-is_function : goal.returns-else-is_function
returns-else-is_function c =
    may_not_bind c.args.target.now c.in-Object.at c.args.args.now c.args.state.now c.raise.new.self c.raise.result c.in-Object.is
    (sym c.if-is_function.false ∙ c.is_function.ensures) c.raise.ensures

pub returns-in_default : goal.returns-in_default
returns-in_default c = none_to_bind c.args.target.now c.args.args.now c.args.state.now c.raise-in_default.new.self c.raise-in_default.result c.in_default.not-Object c.raise-in_default.ensures
