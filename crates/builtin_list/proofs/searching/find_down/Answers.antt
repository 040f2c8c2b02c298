use Rattle.std.proofs.Common.{sym, ◌∙◌, ◌-◌, Ok}
use Rattle.page_meaning.specs.ListRows as spec
use Rattle.builtin_list.proofs.Lookups.{down_none, found, look_stops, looks_on}
use Rattle.builtin_list.proofs.Lookups as lookup
use Rattle.builtin_list.proofs.searching.find_down.Goals as goal

pub returns-in_err-take_turn : goal.returns-in_err-take_turn
returns-in_err-take_turn c =
    c.loop-left.invariant c.args.state.now c.take_turn.new.steps c.from_residual.result
    (look_stops c.args.list c.args.value.now (spec.find_down c.args.list c.args.value.now c.loop-left.left) (spec.find_down c.args.list c.args.value.now (c.loop-left.left - 1))
    (c.loop-left.left - 1) (lookup.down_is c.args.list c.args.value.now c.loop-left.left c.loop-left-test.true) c.args.state.now c.loop-left.steps c.take_turn.new.steps
    c.in_err-take_turn.field-0.0 c.from_residual.result c.in_err-take_turn.ensures c.from_residual.ensures)

pub returns-then-branch : goal.returns-then-branch
returns-then-branch c =
    c.loop-left.invariant c.args.state.now c.take_turn.new.steps (Ok c.in_ok-index_value.field-0)
    (found c.args.list c.args.value.now (spec.find_down c.args.list c.args.value.now c.loop-left.left) (spec.find_down c.args.list c.args.value.now (c.loop-left.left - 1))
    (c.loop-left.left - 1) (lookup.down_is c.args.list c.args.value.now c.loop-left.left c.loop-left-test.true) c.args.state.now c.loop-left.steps c.take_turn.new.steps
    c.in_ok-index_value.field-0 c.in_ok-take_turn.ensures
    (sym c.if-branch.true ∙ c.in_ok-is_there.ensures) c.in_ok-index_value.ensures)

pub loop-left-preserved : goal.loop-left-preserved
loop-left-preserved c t j r g =
    c.loop-left.invariant t j r
    (looks_on c.args.list c.args.value.now (spec.find_down c.args.list c.args.value.now c.loop-left.left) (spec.find_down c.args.list c.args.value.now (c.loop-left.left - 1))
    (c.loop-left.left - 1) (lookup.down_is c.args.list c.args.value.now c.loop-left.left c.loop-left-test.true) c.args.state.now t c.loop-left.steps c.take_turn.new.steps j r
    c.in_ok-take_turn.ensures
    (sym c.if-branch.false ∙ c.in_ok-is_there.ensures) g)

pub returns : goal.returns
returns c =
    c.loop-left.invariant c.args.state.now c.loop-left.steps (Ok c.in_ok-not_found.field-0)
    (down_none c.args.list c.args.value.now c.loop-left.left c.args.state.now c.loop-left.steps c.in_ok-not_found.field-0 c.loop-left-test.false c.in_ok-not_found.ensures)
