use Rattle.std.proofs.Common.{ap, ◌-◌, length, take, drop, map, Ok}
use Rattle.code_table.specs.Table.{declared_as}
use Rattle.page_state.proofs.Rests.{none_left, split}
use Rattle.page_state.proofs.TopNames.{globals_end, globals_none, globals_on}
use Rattle.page_state.proofs.state.State.declare_all.Goals as goal

pub returns-in_err-declare_global : goal.returns-in_err-declare_global
returns-in_err-declare_global c =
    let rest = c.loop-rest.rest.now in
    let whole = ap (map declared_as) (split rest c.declared-item.result c.in-len1-up.len_at_least c.declared-item.is) in
    c.loop-rest.invariant c.declare_global.new.self c.from_residual.result
    (globals_end (declared_as c.declared-item.result) (map declared_as (take (length rest - 1) (drop 1 rest))) (map declared_as rest) c.loop-rest.self c.declare_global.new.self
    c.in_err-declare_global.field-0.0 c.from_residual.result whole c.in_err-declare_global.ensures c.from_residual.ensures)

pub loop-rest-preserved : goal.loop-rest-preserved
loop-rest-preserved c t r g =
    let rest = c.loop-rest.rest.now in
    let whole = ap (map declared_as) (split rest c.declared-item.result c.in-len1-up.len_at_least c.declared-item.is) in
    c.loop-rest.invariant t r
    (globals_on (declared_as c.declared-item.result) (map declared_as (take (length rest - 1) (drop 1 rest))) (map declared_as rest) c.loop-rest.self c.declare_global.new.self t r
    whole c.in_ok-declare_global.ensures g)

pub returns : goal.returns
returns c =
    let rest = c.loop-rest.rest.now in
    c.loop-rest.invariant c.loop-rest.self (Ok tt) (globals_none (map declared_as rest) c.loop-rest.self (ap (map declared_as) (none_left rest c.in_default.len_below)))
