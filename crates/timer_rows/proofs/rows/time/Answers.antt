use Rattle.timer_rows.proofs.Coming.{time_comes, time_fails}
use Rattle.timer_rows.proofs.rows.time.Goals as goal

pub returns-in_err-number : goal.returns-in_err-number
returns-in_err-number c =
    time_fails c.args.args.now c.args.index c.in_ok-value.value c.args.state.now c.to_number.new.self c.in_err-number.field-0.0 c.from_residual-in_err-number.result c.in_ok-value.ensures
    c.in_err-number.ensures c.from_residual-in_err-number.ensures

pub returns : goal.returns
returns c =
    time_comes c.args.args.now c.args.index c.in_ok-value.value c.in_ok-number.number c.time_of.result c.args.state.now c.to_number.new.self c.in_ok-value.ensures c.in_ok-number.ensures
    c.time_of.ensures
