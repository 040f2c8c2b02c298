use Rattle.timer_rows.proofs.Coming.{more_fails, none_fails}
use Rattle.timer_rows.proofs.rows.function_of.Goals as goal

pub returns-in_err-function : goal.returns-in_err-function
returns-in_err-function c =
    none_fails c.args.args.now c.args.most c.in_ok-value.value c.args.state.now c.callback.new.self c.in_err-function.field-0.0 c.from_residual-in_err-function.result c.in_ok-value.ensures
    c.in_err-function.ensures c.from_residual-in_err-function.ensures

pub returns : goal.returns
returns c =
    more_fails c.args.args.now c.args.most c.in_ok-value.value c.in_ok-function.function c.args.state.now c.callback.new.self c.raise.new.self c.raise.result c.in_ok-value.ensures
    c.in_ok-function.ensures c.if-args-most.false c.raise.ensures
