use Rattle.timer_rows.proofs.Starting.{none_started, started}
use Rattle.timer_rows.proofs.rows.start.Goals as goal

pub returns-in_ok-index_value-in-Some : goal.returns-in_ok-index_value-in-Some
returns-in_ok-index_value-in-Some c =
    started c.args.delay c.args.period c.args.function c.in-Some.id c.in_ok-index_value-in-Some.field-0 c.args.state.now c.start_timer.new.self (rw c.in-Some.is at c.in_ok-id.ensures)
    (rw c.from.ensures at c.in_ok-index_value-in-Some.ensures)

pub returns-in-None : goal.returns-in-None
returns-in-None c =
    none_started c.args.delay c.args.period c.args.function c.args.state.now c.start_timer.new.self c.raise.new.self c.raise.result (rw c.in-None.is at c.in_ok-id.ensures) c.raise.ensures
