use Rattle.page_meaning.specs.Expressions.{assigned}
use Rattle.page_meaning.specs.Operators.{operate}
use Rattle.page_meaning.specs.HostPuts.{put_member}
use Rattle.page_state.specs.Does.{itself}
use Rattle.page_state.proofs.Callers.{also_gives, failed}
use Rattle.step_assign.proofs.puts.put_operated.Goals as goal

pub returns-in_err-new : goal.returns-in_err-new
returns-in_err-new c =
    failed (λ calls. operate calls c.args.op c.args.old.now c.args.value.now) (λ calls. assigned (put_member calls c.args.base.now c.args.name.now)) itself
    c.args.state.now c.operate.new.self c.in_err-new.field-0.0 c.from_residual.result c.in_err-new.ensures c.from_residual.ensures

pub returns : goal.returns
returns c =
    also_gives (λ calls. operate calls c.args.op c.args.old.now c.args.value.now) (λ calls. assigned (put_member calls c.args.base.now c.args.name.now)) itself
    c.in_ok-new.new c.args.state.now c.operate.new.self c.put_member.new.state c.put_member.result c.in_ok-new.ensures c.put_member.ensures
