use Rattle.js_values.specs.declared.value.Value.TheVariants.{Undefined}
use Rattle.page_meaning.specs.ListRows as spec
use Rattle.page_state.specs.Does.{no_value}
use Rattle.page_state.proofs.Callers.{also_gives, failed}
use Rattle.builtin_list.proofs.reversal.put_both.Goals as goal

pub returns-in_err-put_or_delete : goal.returns-in_err-put_or_delete
returns-in_err-put_or_delete c =
    failed (λ _. spec.put_or_delete c.args.list c.args.low c.args.second) (λ _ _. spec.put_or_delete c.args.list c.args.high c.args.first) no_value
    c.args.state.now c.put_or_delete.new.state c.in_err-put_or_delete.field-0.0 c.from_residual.result c.in_err-put_or_delete.ensures c.from_residual.ensures

pub returns : goal.returns
returns c =
    also_gives (λ _. spec.put_or_delete c.args.list c.args.low c.args.second) (λ _ _. spec.put_or_delete c.args.list c.args.high c.args.first) no_value Undefined
    c.args.state.now c.put_or_delete.new.state c.put_or_delete-2.new.state c.put_or_delete-2.result c.in_ok-put_or_delete.ensures c.put_or_delete-2.ensures
