use Rattle.std.proofs.Common.{Ok}
use Rattle.std.specs.Fmt.{decimal}
use Rattle.js_values.specs.declared.value.Value.TheVariants.{Undefined}
use Rattle.page_meaning.specs.Act.{done}
use Rattle.page_meaning.specs.Properties.{define_member}
use Rattle.page_state.specs.Does.{itself, no_value}
use Rattle.page_state.proofs.Does.{also_gives, failed, given}
use Rattle.page_state.proofs.state.State.define_element.Goals as goal

pub returns-in_err-define_member : goal.returns-in_err-define_member
returns-in_err-define_member c =
    failed (λ _. define_member c.args.at (decimal c.args.index) c.args.value) (λ _ _. done) no_value c.args.self.now c.define_member.new.self c.in_err-define_member.field-0.0 c.from_residual-in_err-define_member.result
    (rw c.in_ok-name.ensures at c.in_err-define_member.ensures) c.from_residual-in_err-define_member.ensures

pub returns : goal.returns
returns c =
    also_gives (λ _. define_member c.args.at (decimal c.args.index) c.args.value) (λ _ _. done) no_value (itself c.in_ok-define_member.field-0) c.args.self.now c.define_member.new.self c.define_member.new.self (Ok tt)
    (rw c.in_ok-name.ensures at c.in_ok-define_member.ensures) (given Undefined c.define_member.new.self)
