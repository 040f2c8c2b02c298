use Rattle.std.proofs.Common.{inl, inr}
use Rattle.timer_rows.proofs.OtherRows.{other_row}
use Rattle.timer_rows.proofs.rows.row.Goals as goal

pub returns-in-SetTimeout : goal.returns-in-SetTimeout
returns-in-SetTimeout c = rw c.in-SetTimeout.is c.set_timeout.ensures

pub returns-in-SetInterval : goal.returns-in-SetInterval
returns-in-SetInterval c = rw c.in-SetInterval.is c.set_interval.ensures

pub returns-in-SetIntervalFrom : goal.returns-in-SetIntervalFrom
returns-in-SetIntervalFrom c = rw c.in-SetIntervalFrom.is c.set_interval_from.ensures

pub returns-in-ClearTimeout : goal.returns-in-ClearTimeout
returns-in-ClearTimeout c = elim c.in-ClearTimeout.is [ inl e ↦ rw e c.clear.ensures | inr e ↦ rw e c.clear.ensures ]

pub returns-in_default : goal.returns-in_default
returns-in_default c =
    other_row c.args.which c.args.args.now c.args.state.now c.raise.new.self c.raise.result c.in_default.not-SetTimeout c.in_default.not-SetInterval c.in_default.not-SetIntervalFrom
    c.in_default.not-ClearTimeout c.in_default.not-ClearInterval c.raise.ensures
