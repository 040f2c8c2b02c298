use Rattle.js_values.specs.declared.value.Value.TheVariants.{Num}
use Rattle.page_meaning.specs.Convert.{to_number}
use Rattle.page_meaning.specs.HostPuts.{put_member}
use Rattle.page_state.specs.Does.{itself}
use Rattle.page_state.specs.Updates.{changed}
use Rattle.page_state.proofs.Does.{also_gives, failed}
use Rattle.page_state.proofs.state.State.update_member.Goals as goal

pub returns-in_err-old : goal.returns-in_err-old
returns-in_err-old c =
    failed (λ calls. to_number calls c.args.value.now) (λ calls. changed c.args.up c.args.prefix (put_member calls c.args.base.now c.args.name.now)) itself
    c.args.self.now c.to_number.new.self c.in_err-old.field-0.0 c.from_residual.result c.in_err-old.ensures c.from_residual.ensures

pub returns : goal.returns
returns c =
    also_gives (λ calls. to_number calls c.args.value.now) (λ calls. changed c.args.up c.args.prefix (put_member calls c.args.base.now c.args.name.now)) itself
    (Num c.in_ok-old.old) c.args.self.now c.to_number.new.self c.change_member.new.self c.change_member.result c.in_ok-old.ensures c.change_member.ensures
