use native.Mathlib.Numerals.{unary_clauses}
use Rattle.std.proofs.Common.{sym, ◌∙◌, ◌+◌, ◌-◌, Ok}
use Rattle.page_meaning.specs.ListRows as spec
use Rattle.builtin_list.proofs.Lookups.{found, look_stops, looks_on, up_none}
use Rattle.builtin_list.proofs.Lookups as lookup
use Rattle.builtin_list.proofs.searching.find_up.Goals as goal

pub loop-turn-init : goal.loop-turn-init
loop-turn-init c t j r g =
    simp unary_clauses at g

pub returns-in_err-take_turn : goal.returns-in_err-take_turn
returns-in_err-take_turn c =
    c.loop-turn.invariant c.args.state.now c.take_turn.new.steps c.from_residual.result
    (look_stops c.args.list c.args.value.now (spec.find_up c.args.list c.args.value.now (c.args.start + c.loop-turn.turn) (c.args.count - c.loop-turn.turn))
    (spec.find_up c.args.list c.args.value.now (c.args.start + (c.loop-turn.turn + 1)) (c.args.count - (c.loop-turn.turn + 1))) (c.args.start + c.loop-turn.turn)
    (lookup.up_is c.args.list c.args.value.now c.args.start c.args.count c.loop-turn.turn c.loop-turn-test.true) c.args.state.now c.loop-turn.steps c.take_turn.new.steps
    c.in_err-take_turn.field-0.0 c.from_residual.result c.in_err-take_turn.ensures c.from_residual.ensures)

pub returns-then-branch : goal.returns-then-branch
returns-then-branch c =
    c.loop-turn.invariant c.args.state.now c.take_turn.new.steps (Ok c.in_ok-index_value.field-0)
    (found c.args.list c.args.value.now (spec.find_up c.args.list c.args.value.now (c.args.start + c.loop-turn.turn) (c.args.count - c.loop-turn.turn))
    (spec.find_up c.args.list c.args.value.now (c.args.start + (c.loop-turn.turn + 1)) (c.args.count - (c.loop-turn.turn + 1))) (c.args.start + c.loop-turn.turn)
    (lookup.up_is c.args.list c.args.value.now c.args.start c.args.count c.loop-turn.turn c.loop-turn-test.true) c.args.state.now c.loop-turn.steps c.take_turn.new.steps
    c.in_ok-index_value.field-0 c.in_ok-take_turn.ensures
    (sym c.if-branch.true ∙ (rw (c.in_ok-index.ensures) at c.in_ok-is_there.ensures)) (rw (c.in_ok-index.ensures) at c.in_ok-index_value.ensures))

pub loop-turn-preserved : goal.loop-turn-preserved
loop-turn-preserved c t j r g =
    c.loop-turn.invariant t j r
    (looks_on c.args.list c.args.value.now (spec.find_up c.args.list c.args.value.now (c.args.start + c.loop-turn.turn) (c.args.count - c.loop-turn.turn))
    (spec.find_up c.args.list c.args.value.now (c.args.start + (c.loop-turn.turn + 1)) (c.args.count - (c.loop-turn.turn + 1))) (c.args.start + c.loop-turn.turn)
    (lookup.up_is c.args.list c.args.value.now c.args.start c.args.count c.loop-turn.turn c.loop-turn-test.true) c.args.state.now t c.loop-turn.steps c.take_turn.new.steps j r
    c.in_ok-take_turn.ensures
    (sym c.if-branch.false ∙ (rw (c.in_ok-index.ensures) at c.in_ok-is_there.ensures)) g)

pub returns : goal.returns
returns c =
    c.loop-turn.invariant c.args.state.now c.loop-turn.steps (Ok c.in_ok-not_found.field-0)
    (up_none c.args.list c.args.value.now c.args.start c.args.count c.loop-turn.turn c.args.state.now c.loop-turn.steps c.in_ok-not_found.field-0 c.loop-turn-test.false
    c.in_ok-not_found.ensures)
