use Rattle.js_values.specs.declared.value.Value.TheVariants.{Object}
use Rattle.builtin_list.specs.Lists.{for_object}
use Rattle.builtin_list.proofs.Adding.{item_halts, item_on}
use Rattle.builtin_list.proofs.concatenation.add_to.Goals as goal

pub returns-in_err-add_item : goal.returns-in_err-add_item
returns-in_err-add_item c =
    item_halts c.args.made (for_object c.args.made) 0 (Object c.args.list) c.args.args.now c.in_ok-spread.spread c.args.state.now c.in_ok-spread.ensures
    c.add_item.new.state c.args.steps.now c.add_item.new.steps c.in_err-add_item.field-0.0 c.from_residual-in_err-add_item.result c.in_err-add_item.ensures
    c.from_residual-in_err-add_item.ensures

pub returns : goal.returns
returns c =
    item_on c.args.made (for_object c.args.made) 0 (Object c.args.list) c.args.args.now c.in_ok-spread.spread c.args.state.now c.in_ok-spread.ensures
    c.add_item.new.state c.add_all.new.state c.args.steps.now c.add_item.new.steps c.add_all.new.steps c.add_all.result c.in_ok-add_item.ensures
    (rw (c.in_ok-past_item.ensures) at c.add_all.ensures)
