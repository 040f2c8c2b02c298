use Rattle.page_meaning.specs.HostPuts.{put_member}
use Rattle.page_meaning.specs.Properties.{with_properties}
use Rattle.page_state.specs.Does.{itself}
use Rattle.page_state.proofs.Callers.{also_gives, failed}
use Rattle.step_assign.proofs.targets.put_member.Goals as goal

pub returns-in_err-tested : goal.returns-in_err-tested
returns-in_err-tested c =
    failed (λ _. with_properties c.args.base.now) (λ calls o. put_member calls o c.args.name.now c.args.value) itself
    c.args.state.now c.with_properties.new.self c.in_err-tested.field-0.0 c.from_residual.result c.in_err-tested.ensures c.from_residual.ensures

pub returns : goal.returns
returns c =
    also_gives (λ _. with_properties c.args.base.now) (λ calls o. put_member calls o c.args.name.now c.args.value) itself
    c.in_ok-tested.tested c.args.state.now c.with_properties.new.self c.put_member.new.self c.put_member.result c.in_ok-tested.ensures c.put_member.ensures
