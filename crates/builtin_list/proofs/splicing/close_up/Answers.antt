use Rattle.std.proofs.Common.{◌+◌, ◌-◌}
use Rattle.js_values.specs.declared.value.Value.TheVariants.{Undefined}
use Rattle.page_meaning.specs.ListRows as spec
use Rattle.page_state.specs.Does.{no_value}
use Rattle.page_state.proofs.Callers.{also_ends}
use Rattle.builtin_list.proofs.Passed.{halted}
use Rattle.builtin_list.proofs.splicing.close_up.Goals as goal

pub returns-in_err-move_down : goal.returns-in_err-move_down
returns-in_err-move_down c =
    halted (λ _. spec.move_down c.args.list (c.args.place + c.args.less) (c.args.place + c.args.more) (c.args.length - c.args.less - c.args.place))
    (λ _ _. spec.delete_last c.args.list (c.args.length - c.args.less + c.args.more) (c.args.less - c.args.more)) no_value c.args.state.now c.move_down.new.state c.args.steps.now
    c.move_down.new.steps c.in_err-move_down.field-0.0 c.from_residual.result c.in_err-move_down.ensures c.from_residual.ensures

pub returns : goal.returns
returns c =
    also_ends (λ _. spec.move_down c.args.list (c.args.place + c.args.less) (c.args.place + c.args.more) (c.args.length - c.args.less - c.args.place))
    (λ _ _. spec.delete_last c.args.list (c.args.length - c.args.less + c.args.more) (c.args.less - c.args.more)) no_value Undefined c.args.state.now c.move_down.new.state
    c.delete_last.new.state c.args.steps.now c.move_down.new.steps c.delete_last.new.steps c.delete_last.result c.in_ok-move_down.ensures c.delete_last.ensures
