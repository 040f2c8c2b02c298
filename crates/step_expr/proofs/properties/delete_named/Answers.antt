use Rattle.page_meaning.specs.Properties.{delete_member, with_properties}
use Rattle.page_state.specs.Does.{itself}
use Rattle.page_state.proofs.Callers.{also_gives, failed}
use Rattle.step_expr.proofs.properties.delete_named.Goals as goal

pub returns-in_err-object : goal.returns-in_err-object
returns-in_err-object c =
    failed (λ _. with_properties c.args.base.now) (λ _ o. delete_member o c.args.name.now) itself c.args.state.now c.with_properties.new.self c.in_err-object.field-0.0 c.from_residual.result
    c.in_err-object.ensures c.from_residual.ensures

pub returns : goal.returns
returns c =
    also_gives (λ _. with_properties c.args.base.now) (λ _ o. delete_member o c.args.name.now) itself c.in_ok-object.object c.args.state.now c.with_properties.new.self c.delete.new.state
    c.delete.result c.in_ok-object.ensures c.delete.ensures
