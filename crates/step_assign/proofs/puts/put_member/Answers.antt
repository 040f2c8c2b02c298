use Rattle.std.proofs.Common.{Ok}
use Rattle.page_meaning.specs.Act.{give}
use Rattle.page_meaning.specs.HostPuts.{put_member}
use Rattle.page_state.specs.Does.{itself}
use Rattle.page_state.proofs.Callers.{also_gives, failed, given}
use Rattle.step_assign.proofs.puts.put_member.Goals as goal

pub returns-in_err-_put : goal.returns-in_err-_put
returns-in_err-_put c =
    failed (λ calls. put_member calls c.args.base.now c.args.name.now c.args.value) (λ _ _. give c.args.value) itself
    c.args.state.now c.put_member.new.self c.in_err-_put.field-0.0 c.from_residual-in_err-_put.result c.in_err-_put.ensures c.from_residual-in_err-_put.ensures

pub returns : goal.returns
returns c =
    also_gives (λ calls. put_member calls c.args.base.now c.args.name.now c.args.value) (λ _ _. give c.args.value) itself
    c.in_ok-_put._put c.args.state.now c.put_member.new.self c.put_member.new.self (Ok c.in_ok-given.given) c.in_ok-_put.ensures
    (rw (← c.in_ok-given.ensures) (given c.in_ok-given.given c.put_member.new.self))
