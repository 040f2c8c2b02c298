use Rattle.page_meaning.specs.Properties.{read_property, with_properties}
use Rattle.page_state.specs.Does.{itself}
use Rattle.page_state.proofs.Does.{also_gives, also_raises, given}
use Rattle.page_state.proofs.Values.{has_properties, no_properties}
use Rattle.page_state.proofs.state.State.get_member.Goals as goal

pub returns-in-Undefined : goal.returns-in-Undefined
returns-in-Undefined c = also_raises (λ _. with_properties c.args.base.now) (λ _ _. read_property c.args.base.now c.args.name.now) c.args.self.now c.raise.new.self c.raise.result (rw (no_properties c.args.base.now c.in-Undefined.is) c.raise.ensures)

pub returns-in_default : goal.returns-in_default
returns-in_default c =
    also_gives (λ _. with_properties c.args.base.now) (λ _ _. read_property c.args.base.now c.args.name.now) itself c.args.base.now c.args.self.now c.args.self.now c.read_property.new.self
    c.read_property.result (rw (has_properties c.args.base.now c.in_default.not-Undefined c.in_default.not-Null) (given c.args.base.now c.args.self.now)) c.read_property.ensures
