use Rattle.std.proofs.Common.{Ok}
use Rattle.std.specs.Fmt.{decimal}
use Rattle.js_values.specs.declared.value.Value.TheVariants.{Undefined}
use Rattle.page_meaning.specs.Act.{done}
use Rattle.page_meaning.specs.Properties.{put_in}
use Rattle.page_state.specs.Does.{itself, no_value}
use Rattle.page_state.proofs.Does.{also_gives, failed, given}
use Rattle.page_state.proofs.state.State.put_element.Goals as goal

pub returns-in_err-put_in : goal.returns-in_err-put_in
returns-in_err-put_in c =
    failed (λ _. put_in c.args.at (decimal c.args.index) c.args.value) (λ _ _. done) no_value c.args.self.now c.put_in.new.self c.in_err-put_in.field-0.0 c.from_residual-in_err-put_in.result
    (rw c.in_ok-name.ensures at c.in_err-put_in.ensures) c.from_residual-in_err-put_in.ensures

pub returns : goal.returns
returns c =
    also_gives (λ _. put_in c.args.at (decimal c.args.index) c.args.value) (λ _ _. done) no_value (itself c.in_ok-put_in.field-0) c.args.self.now c.put_in.new.self c.put_in.new.self (Ok tt)
    (rw c.in_ok-name.ensures at c.in_ok-put_in.ensures) (given Undefined c.put_in.new.self)
