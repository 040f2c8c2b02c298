use Rattle.page_meaning.specs.Properties.{delete_member}
use Rattle.step_expr.proofs.Moving.{handed}
use Rattle.step_expr.proofs.properties.delete.Goals as goal

pub returns-in_err-delete_member : goal.returns-in_err-delete_member
returns-in_err-delete_member c =
    handed (λ _. delete_member c.args.base.now c.args.name.now) c.args.state.now c.delete_member.new.self c.in_err-delete_member.field-0.0 c.from_residual.result c.in_err-delete_member.ensures c.from_residual.ensures

pub returns : goal.returns
returns c = c.in_ok-delete_member.ensures
