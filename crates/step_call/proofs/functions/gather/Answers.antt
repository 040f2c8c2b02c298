use native.Mathlib.Numerals.{unary_clauses}
use Rattle.std.proofs.Common.{Ok}
use Rattle.step_call.proofs.Running.{all_gathered, none_gathered, one_gathered}
use Rattle.step_call.proofs.functions.gather.Goals as goal

pub loop-index-init : goal.loop-index-init
loop-index-init c t j r g = simp unary_clauses at (rw c.new-args.ensures at g)

pub returns-in_err-take_turn : goal.returns-in_err-take_turn
returns-in_err-take_turn c =
    c.loop-index.invariant c.args.state.now c.take_turn.new.steps c.from_residual.result
    (none_gathered c.args.list c.loop-index.args c.loop-index.index c.args.length c.args.state.now c.loop-index.steps c.take_turn.new.steps c.in_err-take_turn.field-0.0 c.from_residual.result
    c.loop-index-test.true c.in_err-take_turn.ensures.0 c.in_err-take_turn.ensures.1.1 c.from_residual.ensures.1)

pub loop-index-preserved : goal.loop-index-preserved
loop-index-preserved c t j r h =
    c.loop-index.invariant t j r
    (one_gathered c.args.list c.loop-index.args c.push.new.self c.in_ok-element_or_undefined.field-0 c.loop-index.index c.args.length c.args.state.now t c.loop-index.steps c.take_turn.new.steps j r
    c.loop-index-test.true c.in_ok-take_turn.ensures c.in_ok-element_or_undefined.ensures c.in_ok-push.ensures.ok h)

pub returns : goal.returns
returns c =
    c.loop-index.invariant c.args.state.now c.loop-index.steps (Ok c.loop-index.args)
    (all_gathered c.args.list c.loop-index.args c.loop-index.index c.args.length c.args.state.now c.loop-index.steps c.loop-index-test.false)
