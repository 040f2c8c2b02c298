use Rattle.std.proofs.Common.{Ok}
use Rattle.js_values.specs.declared.value.Value.TheVariants.{Undefined}
use Rattle.page_meaning.specs.ListRows as spec
use Rattle.page_state.specs.Does.{itself}
use Rattle.page_state.proofs.Callers.{also_ends, gives_ends}
use Rattle.builtin_list.proofs.Passed.{halted, fault_ends}
use Rattle.builtin_list.proofs.ends.shift_all.Goals as goal

pub returns-in_err-move_down : goal.returns-in_err-move_down
returns-in_err-move_down c =
    halted (λ _. spec.move_down c.args.list 1 0 c.args.last) (λ _ _. spec.drop_last c.args.list c.args.last c.args.value) itself
    c.args.state.now c.move_down.new.state c.args.steps.now c.move_down.new.steps c.in_err-move_down.field-0.0 c.from_residual.result c.in_err-move_down.ensures c.from_residual.ensures

pub returns-in_err-drop_last : goal.returns-in_err-drop_last
returns-in_err-drop_last c =
    also_ends (λ _. spec.move_down c.args.list 1 0 c.args.last) (λ _ _. spec.drop_last c.args.list c.args.last c.args.value) itself Undefined
    c.args.state.now c.move_down.new.state c.drop_last.new.state c.args.steps.now c.move_down.new.steps c.move_down.new.steps c.from_residual-in_err-drop_last.result
    c.in_ok-move_down.ensures
    (fault_ends itself (λ _. spec.drop_last c.args.list c.args.last c.args.value) c.move_down.new.state c.drop_last.new.state c.move_down.new.steps c.in_err-drop_last.field-0.0
    c.from_residual-in_err-drop_last.result c.in_err-drop_last.ensures c.from_residual-in_err-drop_last.ensures)

pub returns : goal.returns
returns c =
    also_ends (λ _. spec.move_down c.args.list 1 0 c.args.last) (λ _ _. spec.drop_last c.args.list c.args.last c.args.value) itself Undefined
    c.args.state.now c.move_down.new.state c.drop_last.new.state c.args.steps.now c.move_down.new.steps c.move_down.new.steps (Ok c.in_ok-drop_last.field-0) c.in_ok-move_down.ensures
    (gives_ends itself (λ _. spec.drop_last c.args.list c.args.last c.args.value) c.move_down.new.state c.drop_last.new.state c.move_down.new.steps c.in_ok-drop_last.field-0
    c.in_ok-drop_last.ensures)
