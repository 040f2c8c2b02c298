use Rattle.std.proofs.Common.{Ok}
use Rattle.std.specs.Fmt.{decimal}
use Rattle.js_values.specs.declared.value.Value.TheVariants.{Undefined, Bool as Truth, Object}
use Rattle.page_meaning.specs.Act.{done}
use Rattle.page_meaning.specs.Properties.{delete_member}
use Rattle.page_state.specs.Does.{no_value}
use Rattle.page_state.proofs.Does.{also_gives, failed, given}
use Rattle.page_state.proofs.state.State.delete_element.Goals as goal

pub returns-in_err-delete_member : goal.returns-in_err-delete_member
returns-in_err-delete_member c =
    failed (λ _. delete_member (Object c.args.at) (decimal c.args.index)) (λ _ _. done) no_value c.args.self.now c.delete_member.new.self c.in_err-delete_member.field-0.0 c.from_residual-in_err-delete_member.result
    (rw c.in_ok-name.ensures at c.in_err-delete_member.ensures) c.from_residual-in_err-delete_member.ensures

pub returns : goal.returns
returns c =
    also_gives (λ _. delete_member (Object c.args.at) (decimal c.args.index)) (λ _ _. done) no_value (Truth c.in_ok-delete_member.field-0) c.args.self.now c.delete_member.new.self c.delete_member.new.self (Ok tt)
    (rw c.in_ok-name.ensures at c.in_ok-delete_member.ensures) (given Undefined c.delete_member.new.self)
