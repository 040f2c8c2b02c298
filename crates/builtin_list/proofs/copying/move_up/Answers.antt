use Rattle.std.proofs.Common.{◌+◌, Ok}
use Rattle.js_values.specs.declared.value.Value.TheVariants.{Undefined}
use Rattle.page_meaning.specs.ListRows as spec
use Rattle.page_state.specs.Does.{no_value}
use Rattle.builtin_list.proofs.Taken.{down_ends, down_fails, down_on, down_stops}
use Rattle.builtin_list.proofs.copying.move_up.Goals as goal

pub returns-in_err-take_turn : goal.returns-in_err-take_turn
returns-in_err-take_turn c =
    c.loop-left.invariant c.loop-left.state c.take_turn.new.steps c.from_residual.result
    (down_stops (λ i. spec.move c.args.list (c.args.from + i) (c.args.to + i)) no_value c.loop-left.left c.loop-left.state c.loop-left.steps c.take_turn.new.steps
    c.in_err-take_turn.field-0.0 c.from_residual.result
    c.loop-left-test.true c.in_err-take_turn.ensures c.from_residual.ensures)

pub returns-in_err-move_one : goal.returns-in_err-move_one
returns-in_err-move_one c =
    c.loop-left.invariant c.move_one.new.state c.take_turn.new.steps c.from_residual-in_err-move_one.result
    (down_fails (λ i. spec.move c.args.list (c.args.from + i) (c.args.to + i)) no_value c.loop-left.left c.loop-left.state c.move_one.new.state c.loop-left.steps c.take_turn.new.steps
    c.in_err-move_one.field-0.0 c.from_residual-in_err-move_one.result
    c.loop-left-test.true c.in_ok-take_turn.ensures (rw (c.in_ok-further.ensures, c.in_ok-further-2.ensures) at c.in_err-move_one.ensures) c.from_residual-in_err-move_one.ensures)

pub loop-left-preserved : goal.loop-left-preserved
loop-left-preserved c t j r g =
    c.loop-left.invariant t j r
    (down_on (λ i. spec.move c.args.list (c.args.from + i) (c.args.to + i)) no_value c.loop-left.left Undefined c.loop-left.state c.move_one.new.state t c.loop-left.steps
    c.take_turn.new.steps j r
    c.loop-left-test.true c.in_ok-take_turn.ensures (rw (c.in_ok-further.ensures, c.in_ok-further-2.ensures) at c.in_ok-move_one.ensures) g)

pub returns : goal.returns
returns c =
    c.loop-left.invariant c.loop-left.state c.loop-left.steps (Ok tt)
    (down_ends (λ i. spec.move c.args.list (c.args.from + i) (c.args.to + i)) c.loop-left.left c.loop-left.state c.loop-left.steps c.loop-left-test.false)
