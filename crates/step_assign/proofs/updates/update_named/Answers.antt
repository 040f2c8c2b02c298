use Rattle.page_meaning.specs.Operators.{update_with}
use Rattle.page_meaning.specs.HostPuts.{put_member}
use Rattle.page_meaning.specs.Properties.{read_property}
use Rattle.page_state.specs.Does.{itself}
use Rattle.page_state.proofs.Callers.{also_gives, failed}
use Rattle.step_assign.proofs.updates.update_named.Goals as goal

pub returns-in_err-old : goal.returns-in_err-old
returns-in_err-old c =
    failed (λ _. read_property c.args.base.now c.args.name.now) (λ calls. update_with calls c.args.up c.args.prefix (put_member calls c.args.base.now c.args.name.now)) itself
    c.args.state.now c.read_property.new.self c.in_err-old.field-0.0 c.from_residual.result c.in_err-old.ensures c.from_residual.ensures

pub returns : goal.returns
returns c =
    also_gives (λ _. read_property c.args.base.now c.args.name.now) (λ calls. update_with calls c.args.up c.args.prefix (put_member calls c.args.base.now c.args.name.now)) itself
    c.in_ok-old.old c.args.state.now c.read_property.new.self c.update_member.new.self c.update_member.result c.in_ok-old.ensures c.update_member.ensures
