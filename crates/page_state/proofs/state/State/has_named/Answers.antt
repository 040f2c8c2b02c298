use Rattle.std.proofs.Common.{refl, Ok}
use Rattle.js_values.specs.declared.value.Value.TheVariants.{Bool as Truth, Text}
use Rattle.page_meaning.specs.Act.{asking, give}
use Rattle.page_meaning.specs.Convert.{text_in, to_text}
use Rattle.page_meaning.specs.Properties.{has_member}
use Rattle.page_state.specs.Does.{itself}
use Rattle.page_state.proofs.Does.{also_gives, failed}
use Rattle.page_state.proofs.state.State.has_named.Goals as goal

pub returns-in_err-name : goal.returns-in_err-name
returns-in_err-name c =
    failed (λ calls. to_text calls c.args.value.now)
    (λ _ x. asking (λ s. has_member s c.args.at (text_in x)) (λ b. give (Truth b))) itself
    c.args.self.now c.to_text.new.self c.in_err-name.field-0.0 c.from_residual.result c.in_err-name.ensures c.from_residual.ensures

pub returns : goal.returns
returns c =
    also_gives (λ calls. to_text calls c.args.value.now)
    (λ _ x. asking (λ s. has_member s c.args.at (text_in x)) (λ b. give (Truth b))) itself
    (Text c.in_ok-name.name) c.args.self.now c.to_text.new.self c.to_text.new.self (Ok (Truth c.has_member.result)) c.in_ok-name.ensures
    (record { is = λ calls n. rw c.has_member.ensures refl })
