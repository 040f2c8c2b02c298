use Rattle.std.proofs.Common.{◌+◌, length, Ok}
use Rattle.js_values.specs.declared.value.Value.TheVariants.{Undefined}
use Rattle.page_meaning.specs.ListRows as spec
use Rattle.page_state.specs.Does.{itself}
use Rattle.page_state.proofs.Callers.{also_ends, gives_ends}
use Rattle.builtin_list.proofs.Passed.{halted, fault_ends}
use Rattle.builtin_list.proofs.ends.unshift.Goals as goal

pub returns-in_err-move_up : goal.returns-in_err-move_up
returns-in_err-move_up c =
    halted (λ _. spec.move_up c.args.list 0 (length c.args.values.now) c.args.length) (λ _ _. spec.put_all c.args.list 0 c.args.values.now (c.args.length + length c.args.values.now)) itself
    c.args.state.now c.move_up.new.state c.args.steps.now c.move_up.new.steps c.in_err-move_up.field-0.0 c.from_residual-in_err-move_up.result c.in_err-move_up.ensures
    c.from_residual-in_err-move_up.ensures

pub returns-in_err-put_all : goal.returns-in_err-put_all
returns-in_err-put_all c =
    also_ends (λ _. spec.move_up c.args.list 0 (length c.args.values.now) c.args.length) (λ _ _. spec.put_all c.args.list 0 c.args.values.now (c.args.length + length c.args.values.now))
    itself Undefined
    c.args.state.now c.move_up.new.state c.put_all.new.state c.args.steps.now c.move_up.new.steps c.move_up.new.steps c.from_residual-in_err-put_all.result c.in_ok-move_up.ensures
    (fault_ends itself (λ _. spec.put_all c.args.list 0 c.args.values.now (c.args.length + length c.args.values.now)) c.move_up.new.state c.put_all.new.state c.move_up.new.steps
    c.in_err-put_all.field-0.0 c.from_residual-in_err-put_all.result (rw (c.in_ok-longer.ensures) at c.in_err-put_all.ensures) c.from_residual-in_err-put_all.ensures)

pub returns : goal.returns
returns c =
    also_ends (λ _. spec.move_up c.args.list 0 (length c.args.values.now) c.args.length) (λ _ _. spec.put_all c.args.list 0 c.args.values.now (c.args.length + length c.args.values.now))
    itself Undefined
    c.args.state.now c.move_up.new.state c.put_all.new.state c.args.steps.now c.move_up.new.steps c.move_up.new.steps (Ok c.in_ok-put_all.field-0) c.in_ok-move_up.ensures
    (gives_ends itself (λ _. spec.put_all c.args.list 0 c.args.values.now (c.args.length + length c.args.values.now)) c.move_up.new.state c.put_all.new.state c.move_up.new.steps
    c.in_ok-put_all.field-0 (rw (c.in_ok-longer.ensures) at c.in_ok-put_all.ensures))
