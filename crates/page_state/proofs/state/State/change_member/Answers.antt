use Rattle.js_values.specs.declared.value.Value.TheVariants.{Num}
use Rattle.page_meaning.specs.HostPuts.{put_member}
use Rattle.page_meaning.specs.Operators.{one_more}
use Rattle.page_state.specs.Does.{itself}
use Rattle.page_state.specs.Updates.{put_back}
use Rattle.page_state.proofs.Does.{also_gives, failed}
use Rattle.page_state.proofs.state.State.change_member.Goals as goal

pub returns-in_err-new : goal.returns-in_err-new
returns-in_err-new c =
    failed (λ _. one_more c.args.up (Num c.args.old)) (λ calls. put_back c.args.prefix (put_member calls c.args.base.now c.args.name.now) (Num c.args.old)) itself
    c.args.self.now c.one_more.new.self c.in_err-new.field-0.0 c.from_residual.result c.in_err-new.ensures c.from_residual.ensures

pub returns : goal.returns
returns c =
    also_gives (λ _. one_more c.args.up (Num c.args.old)) (λ calls. put_back c.args.prefix (put_member calls c.args.base.now c.args.name.now) (Num c.args.old)) itself
    (Num c.in_ok-new.new) c.args.self.now c.one_more.new.self c.put_back_member.new.self c.put_back_member.result c.in_ok-new.ensures c.put_back_member.ensures
