use Rattle.std.proofs.Common.{◌+◌, drop, Ok}
use Rattle.std.proofs.Math.ListN.{drop_of_length-le}
use Rattle.builtin_list.specs.Lists.{for_object}
use Rattle.builtin_list.proofs.Adding.{item_halts, item_on, next_is}
use Rattle.builtin_list.proofs.Passed.{gave_for}
use Rattle.builtin_list.proofs.concatenation.add_all.Goals as goal

pub returns-in_err-add_item : goal.returns-in_err-add_item
returns-in_err-add_item c =
    c.loop-index.invariant c.add_item.new.state c.add_item.new.steps c.from_residual-in_err-add_item.result
    (rw (next_is c.args.items.now c.loop-index.index c.index-items-index.result c.loop-index-test.true c.index-items-index.is)
    (item_halts c.args.made (for_object c.args.made) c.loop-index.place c.index-items-index.result (drop (c.loop-index.index + 1) c.args.items.now) c.in_ok-spread.spread c.loop-index.state
    c.in_ok-spread.ensures
    c.add_item.new.state c.loop-index.steps c.add_item.new.steps c.in_err-add_item.field-0.0 c.from_residual-in_err-add_item.result c.in_err-add_item.ensures
    c.from_residual-in_err-add_item.ensures))

pub loop-index-preserved : goal.loop-index-preserved
loop-index-preserved c t j r g =
    c.loop-index.invariant t j r
    (rw (next_is c.args.items.now c.loop-index.index c.index-items-index.result c.loop-index-test.true c.index-items-index.is)
    (item_on c.args.made (for_object c.args.made) c.loop-index.place c.index-items-index.result (drop (c.loop-index.index + 1) c.args.items.now) c.in_ok-spread.spread c.loop-index.state
    c.in_ok-spread.ensures
    c.add_item.new.state t c.loop-index.steps c.add_item.new.steps j r c.in_ok-add_item.ensures (rw (c.in_ok-place.ensures) at g)))

pub returns : goal.returns
returns c =
    c.loop-index.invariant c.loop-index.state c.loop-index.steps (Ok tt)
    (rw (drop_of_length-le c.args.items.now c.loop-index-test.false) (gave_for (for_object c.args.made) tt c.loop-index.state c.loop-index.steps))
