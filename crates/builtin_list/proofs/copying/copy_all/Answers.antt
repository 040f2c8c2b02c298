use native.Mathlib.Numerals.{unary_clauses}
use Rattle.std.proofs.Common.{◌+◌, Ok}
use Rattle.js_values.specs.declared.value.Value.TheVariants.{Undefined}
use Rattle.page_meaning.specs.ListRows as spec
use Rattle.page_state.specs.Does.{no_value}
use Rattle.builtin_list.proofs.Taken.{up_ends, up_fails, up_on, up_stops}
use Rattle.builtin_list.proofs.copying.copy_all.Goals as goal

pub loop-turn-init : goal.loop-turn-init
loop-turn-init c t j r g =
    simp unary_clauses at g

pub returns-in_err-take_turn : goal.returns-in_err-take_turn
returns-in_err-take_turn c =
    c.loop-turn.invariant c.loop-turn.state c.take_turn.new.steps c.from_residual.result
    (up_stops (λ i. spec.copy c.args.from (c.args.index + i) c.args.made (c.args.place + i)) no_value c.args.count c.loop-turn.turn c.loop-turn.state c.loop-turn.steps c.take_turn.new.steps
    c.in_err-take_turn.field-0.0 c.from_residual.result
    c.loop-turn-test.true c.in_err-take_turn.ensures c.from_residual.ensures)

pub returns-in_err-copy : goal.returns-in_err-copy
returns-in_err-copy c =
    c.loop-turn.invariant c.copy.new.state c.take_turn.new.steps c.from_residual-in_err-copy.result
    (up_fails (λ i. spec.copy c.args.from (c.args.index + i) c.args.made (c.args.place + i)) no_value c.args.count c.loop-turn.turn c.loop-turn.state c.copy.new.state c.loop-turn.steps
    c.take_turn.new.steps c.in_err-copy.field-0.0 c.from_residual-in_err-copy.result
    c.loop-turn-test.true c.in_ok-take_turn.ensures (rw (c.in_ok-further.ensures, c.in_ok-further-2.ensures) at c.in_err-copy.ensures) c.from_residual-in_err-copy.ensures)

pub loop-turn-preserved : goal.loop-turn-preserved
loop-turn-preserved c t j r g =
    c.loop-turn.invariant t j r
    (up_on (λ i. spec.copy c.args.from (c.args.index + i) c.args.made (c.args.place + i)) no_value c.args.count c.loop-turn.turn Undefined c.loop-turn.state c.copy.new.state t
    c.loop-turn.steps c.take_turn.new.steps j r
    c.loop-turn-test.true c.in_ok-take_turn.ensures (rw (c.in_ok-further.ensures, c.in_ok-further-2.ensures) at c.in_ok-copy.ensures) g)

pub returns : goal.returns
returns c =
    c.loop-turn.invariant c.loop-turn.state c.loop-turn.steps (Ok tt)
    (up_ends (λ i. spec.copy c.args.from (c.args.index + i) c.args.made (c.args.place + i)) c.args.count c.loop-turn.turn c.loop-turn.state c.loop-turn.steps c.loop-turn-test.false)
