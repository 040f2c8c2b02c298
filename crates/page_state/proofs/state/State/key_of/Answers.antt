use Rattle.page_meaning.specs.Properties.{with_properties}
use Rattle.page_meaning.specs.Convert.{to_text}
use Rattle.page_state.proofs.Does.{also_gives, also_raises, given}
use Rattle.page_state.proofs.Values.{has_properties, no_properties}
use Rattle.js_values.specs.declared.value.Value.TheVariants.{Text}
use Rattle.page_state.proofs.state.State.key_of.Goals as goal

pub returns-in-Undefined : goal.returns-in-Undefined
returns-in-Undefined c = also_raises (λ _. with_properties c.args.base.now) (λ calls _. to_text calls c.args.key.now) c.args.self.now c.raise.new.self c.raise.result (rw (no_properties c.args.base.now c.in-Undefined.is) c.raise.ensures)

pub returns-in_default : goal.returns-in_default
returns-in_default c = also_gives (λ _. with_properties c.args.base.now) (λ calls _. to_text calls c.args.key.now) (λ x. Text x) c.args.base.now c.args.self.now c.args.self.now c.to_text.new.self c.to_text.result (rw (has_properties c.args.base.now c.in_default.not-Undefined c.in_default.not-Null) (given c.args.base.now c.args.self.now)) c.to_text.ensures
