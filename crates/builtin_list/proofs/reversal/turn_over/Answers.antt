use native.Mathlib.Numerals.{unary_clauses}
use Rattle.std.proofs.Common.{◌≡◌, suc, ◌-◌, ◌/◌, Ok, arith}
use Rattle.js_values.specs.declared.value.Value.TheVariants.{Undefined}
use Rattle.page_meaning.specs.ListRows as spec
use Rattle.page_state.specs.Does.{no_value}
use Rattle.builtin_list.proofs.Cases.{half_is}
use Rattle.builtin_list.proofs.Taken.{up_ends, up_fails, up_on, up_stops}
use Rattle.builtin_list.proofs.reversal.turn_over.Goals as goal

pub loop-low-init : goal.loop-low-init
loop-low-init c t j r g =
    rw (half_is c.args.length) (simp unary_clauses at g)

pub returns-in_err-take_turn : goal.returns-in_err-take_turn
returns-in_err-take_turn c =
    c.loop-low.invariant c.loop-low.state c.take_turn.new.steps c.from_residual.result
    (up_stops (spec.turn_over c.args.list c.args.length) no_value (c.args.length / 2) c.loop-low.low c.loop-low.state c.loop-low.steps c.take_turn.new.steps c.in_err-take_turn.field-0.0
    c.from_residual.result
    c.loop-low-test.true c.in_err-take_turn.ensures c.from_residual.ensures)

pub returns-in_err-turn_at : goal.returns-in_err-turn_at
returns-in_err-turn_at c =
    c.loop-low.invariant c.turn_at.new.state c.take_turn.new.steps c.from_residual-in_err-turn_at.result
    (up_fails (spec.turn_over c.args.list c.args.length) no_value (c.args.length / 2) c.loop-low.low c.loop-low.state c.turn_at.new.state c.loop-low.steps c.take_turn.new.steps
    c.in_err-turn_at.field-0.0 c.from_residual-in_err-turn_at.result
    c.loop-low-test.true c.in_ok-take_turn.ensures (let place : c.args.length - 1 - c.loop-low.low ≡ c.args.length - suc c.loop-low.low = omega arith in rw (place) at
    c.in_err-turn_at.ensures) c.from_residual-in_err-turn_at.ensures)

pub loop-low-preserved : goal.loop-low-preserved
loop-low-preserved c t j r g =
    c.loop-low.invariant t j r
    (up_on (spec.turn_over c.args.list c.args.length) no_value (c.args.length / 2) c.loop-low.low Undefined c.loop-low.state c.turn_at.new.state t c.loop-low.steps c.take_turn.new.steps j r
    c.loop-low-test.true c.in_ok-take_turn.ensures (let place : c.args.length - 1 - c.loop-low.low ≡ c.args.length - suc c.loop-low.low = omega arith in rw (place) at
    c.in_ok-turn_at.ensures) g)

pub returns : goal.returns
returns c =
    c.loop-low.invariant c.loop-low.state c.loop-low.steps (Ok tt)
    (up_ends (spec.turn_over c.args.list c.args.length) (c.args.length / 2) c.loop-low.low c.loop-low.state c.loop-low.steps c.loop-low-test.false)
