use Rattle.std.proofs.Common.{◌-◌, length, take, drop, Ok}
use Rattle.page_state.proofs.Rests.{none_left, split}
use Rattle.page_state.proofs.TopNames.{variables_end, variables_none, variables_on}
use Rattle.page_state.proofs.state.State.place_all.Goals as goal

pub returns-in_err-place_variable : goal.returns-in_err-place_variable
returns-in_err-place_variable c =
    let rest = c.loop-rest.rest.now in
    let whole = split rest c.name-item.result c.in-len1-up.len_at_least c.name-item.is in
    c.loop-rest.invariant c.place_variable.new.self c.from_residual.result
    (variables_end c.name-item.result (take (length rest - 1) (drop 1 rest)) rest c.loop-rest.self c.place_variable.new.self c.in_err-place_variable.field-0.0 c.from_residual.result
    whole c.in_err-place_variable.ensures c.from_residual.ensures)

pub loop-rest-preserved : goal.loop-rest-preserved
loop-rest-preserved c t r g =
    let rest = c.loop-rest.rest.now in
    let whole = split rest c.name-item.result c.in-len1-up.len_at_least c.name-item.is in
    c.loop-rest.invariant t r
    (variables_on c.name-item.result (take (length rest - 1) (drop 1 rest)) rest c.loop-rest.self c.place_variable.new.self t r whole c.in_ok-place_variable.ensures g)

pub returns : goal.returns
returns c =
    let rest = c.loop-rest.rest.now in
    c.loop-rest.invariant c.loop-rest.self (Ok tt) (variables_none rest c.loop-rest.self (none_left rest c.in_default.len_below))
