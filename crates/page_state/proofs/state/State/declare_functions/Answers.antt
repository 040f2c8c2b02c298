use Rattle.std.proofs.Common.{ap, ◌-◌, length, take, drop, map}
use Rattle.code_table.specs.Table.{declared_as}
use Rattle.page_state.proofs.Entering.{declared_end, declared_on}
use Rattle.page_state.proofs.Rests.{none_left, split}
use Rattle.page_state.proofs.state.State.declare_functions.Goals as goal

pub loop-rest-preserved : goal.loop-rest-preserved
loop-rest-preserved c t d =
    let rest = c.loop-rest.rest.now in
    let whole = ap (map declared_as) (split rest c.declared-item.result c.in-len1-up.len_at_least c.declared-item.is) in
    c.loop-rest.invariant t
    (declared_on c.args.env (declared_as c.declared-item.result) (map declared_as (take (length rest - 1) (drop 1 rest))) (map declared_as rest) c.loop-rest.self c.declare_function.new.self t
    whole c.in_ok-declare_function.ensures d)

pub returns : goal.returns
returns c =
    let rest = c.loop-rest.rest.now in
    c.loop-rest.invariant c.loop-rest.self (declared_end c.args.env (map declared_as rest) c.loop-rest.self (ap (map declared_as) (none_left rest c.in_default.len_below)))
