use Rattle.page_meaning.specs.Errors.{settle}
use Rattle.page_meaning.specs.Properties.{property_of}
use Rattle.page_state.specs.Does.{itself}
use Rattle.page_state.proofs.Does.{asked_gives}
use Rattle.page_state.proofs.state.State.read_property.Goals as goal

pub returns : goal.returns
returns c =
    asked_gives (λ s. property_of s c.args.base.now c.args.name.now) (λ _. settle) itself
    c.args.self.now c.settle.new.self c.settle.result (rw (← c.in_ok-read.ensures) c.settle.ensures)
