use Rattle.std.proofs.Common.{refl, Ok}
use Rattle.js_values.specs.declared.value.Value.TheVariants.{Num}
use Rattle.page_meaning.specs.Act.{give}
use Rattle.page_meaning.specs.HostPuts.{put_member}
use Rattle.page_meaning.specs.Operators.{updated_value}
use Rattle.page_state.specs.Does.{itself}
use Rattle.page_state.proofs.Does.{also_gives, failed}
use Rattle.page_state.proofs.state.State.put_back_member.Goals as goal

pub returns-in_err-_put : goal.returns-in_err-_put
returns-in_err-_put c =
    failed (λ calls. put_member calls c.args.base.now c.args.name.now (Num c.args.new)) (λ _ _. give (updated_value c.args.prefix (Num c.args.old) (Num c.args.new))) itself
    c.args.self.now c.put_member.new.self c.in_err-_put.field-0.0 c.from_residual.result c.in_err-_put.ensures c.from_residual.ensures

pub returns : goal.returns
returns c =
    also_gives (λ calls. put_member calls c.args.base.now c.args.name.now (Num c.args.new)) (λ _ _. give (updated_value c.args.prefix (Num c.args.old) (Num c.args.new))) itself
    c.in_ok-_put._put c.args.self.now c.put_member.new.self c.put_member.new.self (Ok c.updated.result) c.in_ok-_put.ensures (record { is = λ calls n. rw c.updated.ensures refl })
