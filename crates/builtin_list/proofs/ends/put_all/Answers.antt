use Rattle.js_values.specs.declared.value.Value.TheVariants.{Undefined}
use Rattle.page_meaning.specs.Elements as element
use Rattle.page_state.specs.Does.{itself}
use Rattle.page_state.proofs.Callers.{also_gives, failed}
use Rattle.builtin_list.proofs.ends.put_all.Goals as goal

pub returns-in_err-put_each : goal.returns-in_err-put_each
returns-in_err-put_each c =
    failed (λ _. element.put_each c.args.list c.args.start c.args.values.now) (λ _ _. element.set_length c.args.list c.args.length) itself
    c.args.state.now c.put_each.new.self c.in_err-put_each.field-0.0 c.from_residual.result c.in_err-put_each.ensures c.from_residual.ensures

pub returns : goal.returns
returns c =
    also_gives (λ _. element.put_each c.args.list c.args.start c.args.values.now) (λ _ _. element.set_length c.args.list c.args.length) itself Undefined
    c.args.state.now c.put_each.new.self c.set_length.new.self c.set_length.result c.in_ok-put_each.ensures c.set_length.ensures
