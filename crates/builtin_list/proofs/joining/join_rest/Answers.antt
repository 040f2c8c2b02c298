use Rattle.std.proofs.Common.{◌+◌, ◌-◌, Ok}
use Rattle.js_values.specs.declared.value.Value.TheVariants.{Text}
use Rattle.page_meaning.specs.Act.{also}
use Rattle.page_meaning.specs.ListRows as spec
use Rattle.builtin_list.specs.Lists.{for_text}
use Rattle.builtin_list.proofs.Taken.{turn_fails, turn_on, turn_stops}
use Rattle.builtin_list.proofs.Words.{join_ends, join_is}
use Rattle.builtin_list.proofs.joining.join_rest.Goals as goal

pub returns-in_err-take_turn : goal.returns-in_err-take_turn
returns-in_err-take_turn c =
    c.loop-index.invariant c.loop-index.state c.take_turn.new.steps c.loop-index.joined.items c.from_residual.result
    (turn_stops (λ calls. spec.join_from calls c.args.list (Text c.args.separator.now) (Text c.loop-index.joined.items) c.loop-index.index (c.args.length - c.loop-index.index))
    (λ calls. also (spec.join_one calls c.args.list (Text c.args.separator.now) (Text c.loop-index.joined.items) c.loop-index.index)
    (λ more. spec.join_from calls c.args.list (Text c.args.separator.now) more (c.loop-index.index + 1) (c.args.length - (c.loop-index.index + 1)))) (for_text c.loop-index.joined.items)
    c.loop-index.state c.loop-index.steps c.take_turn.new.steps c.in_err-take_turn.field-0.0 c.from_residual.result
    (join_is c.args.list (Text c.args.separator.now) (Text c.loop-index.joined.items) c.loop-index.index c.args.length c.loop-index-test.true) c.in_err-take_turn.ensures
    c.from_residual.ensures)

pub returns-in_err-append_one : goal.returns-in_err-append_one
returns-in_err-append_one c =
    c.loop-index.invariant c.append_one.new.state c.take_turn.new.steps c.append_one.new.joined.items c.from_residual-in_err-append_one.result
    (turn_fails (λ calls. spec.join_from calls c.args.list (Text c.args.separator.now) (Text c.loop-index.joined.items) c.loop-index.index (c.args.length - c.loop-index.index))
    (λ calls. spec.join_one calls c.args.list (Text c.args.separator.now) (Text c.loop-index.joined.items) c.loop-index.index)
    (λ calls more. spec.join_from calls c.args.list (Text c.args.separator.now) more (c.loop-index.index + 1) (c.args.length - (c.loop-index.index + 1)))
    (for_text c.append_one.new.joined.items) (join_is c.args.list (Text c.args.separator.now) (Text c.loop-index.joined.items) c.loop-index.index c.args.length c.loop-index-test.true)
    c.loop-index.state c.append_one.new.state c.loop-index.steps c.take_turn.new.steps c.in_err-append_one.field-0.0 c.from_residual-in_err-append_one.result
    c.in_ok-take_turn.ensures c.in_err-append_one.ensures c.from_residual-in_err-append_one.ensures)

pub loop-index-preserved : goal.loop-index-preserved
loop-index-preserved c t j x r g =
    c.loop-index.invariant t j x r
    (turn_on (λ calls. spec.join_from calls c.args.list (Text c.args.separator.now) (Text c.loop-index.joined.items) c.loop-index.index (c.args.length - c.loop-index.index))
    (λ calls. spec.join_one calls c.args.list (Text c.args.separator.now) (Text c.loop-index.joined.items) c.loop-index.index)
    (λ calls more. spec.join_from calls c.args.list (Text c.args.separator.now) more (c.loop-index.index + 1) (c.args.length - (c.loop-index.index + 1))) (for_text x)
    (join_is c.args.list (Text c.args.separator.now) (Text c.loop-index.joined.items) c.loop-index.index c.args.length c.loop-index-test.true) (Text c.append_one.new.joined.items)
    c.loop-index.state c.append_one.new.state t c.loop-index.steps c.take_turn.new.steps j r
    c.in_ok-take_turn.ensures c.in_ok-append_one.ensures g)

pub returns : goal.returns
returns c =
    c.loop-index.invariant c.loop-index.state c.loop-index.steps c.loop-index.joined.items (Ok tt)
    (join_ends c.args.list (Text c.args.separator.now) c.loop-index.joined.items c.loop-index.index c.args.length c.loop-index.state c.loop-index.steps c.loop-index-test.false)
