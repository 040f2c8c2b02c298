use Rattle.std.proofs.Common.{Some, None, Ok}
use Rattle.step_visit.proofs.Seeking.{element_found, hole_passed, none_found, none_taken}
use Rattle.step_visit.proofs.finding.next_element.Goals as goal

pub returns-in_err-take_turn : goal.returns-in_err-take_turn
returns-in_err-take_turn c =
    c.loop-index.invariant c.args.state.now c.take_turn.new.steps c.from_residual.result
    (none_taken c.args.list c.loop-index.index c.args.length c.args.state.now c.loop-index.steps c.take_turn.new.steps c.in_err-take_turn.field-0.0 c.from_residual.result
    c.loop-index-test.true c.in_err-take_turn.ensures.0 c.in_err-take_turn.ensures.1.1 c.from_residual.ensures.1)

pub returns-in-Some : goal.returns-in-Some
returns-in-Some c =
    c.loop-index.invariant c.args.state.now c.take_turn.new.steps (Ok (Some (c.loop-index.index, c.in-Some.element)))
    (element_found c.args.list c.loop-index.index c.args.length c.in_ok-element.field-0 c.in-Some.element c.args.state.now c.loop-index.steps c.take_turn.new.steps
    c.loop-index-test.true c.in_ok-take_turn.ensures c.in_ok-element.ensures c.in-Some.is)

pub loop-index-preserved : goal.loop-index-preserved
loop-index-preserved c t j r h =
    c.loop-index.invariant t j r
    (hole_passed c.args.list c.loop-index.index c.args.length c.in_ok-element.field-0 c.args.state.now t c.loop-index.steps c.take_turn.new.steps j r
    c.loop-index-test.true c.in_ok-take_turn.ensures c.in_ok-element.ensures c.in-None.is h)

pub returns : goal.returns
returns c =
    c.loop-index.invariant c.args.state.now c.loop-index.steps (Ok None)
    (none_found c.args.list c.loop-index.index c.args.length c.args.state.now c.loop-index.steps c.loop-index-test.false)
