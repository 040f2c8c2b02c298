use Rattle.page_meaning.specs.Properties as spec
use Rattle.page_meaning.specs.Act.{also, choose}
use Rattle.page_meaning.specs.Convert.{number_of}
use Rattle.page_meaning.specs.Errors.{settle}
use Rattle.page_state.specs.Does.{itself}
use Rattle.page_state.proofs.Does.{asked_gives}
use Rattle.page_state.proofs.state.State.put_in.Goals as goal

pub returns-then-is_length_of : goal.returns-then-is_length_of
returns-then-is_length_of c = asked_gives (λ s. spec.is_length_of s c.args.at c.args.name.now) (λ _ b. choose b (also (settle (number_of c.args.value)) (spec.stored c.args.at c.args.name.now)) (spec.stored c.args.at c.args.name.now c.args.value)) itself c.args.self.now c.store_length.new.self c.store_length.result (rw (← c.if-is_length_of.ensures) c.store_length.ensures)

pub returns-else-is_length_of : goal.returns-else-is_length_of
returns-else-is_length_of c = asked_gives (λ s. spec.is_length_of s c.args.at c.args.name.now) (λ _ b. choose b (also (settle (number_of c.args.value)) (spec.stored c.args.at c.args.name.now)) (spec.stored c.args.at c.args.name.now c.args.value)) itself c.args.self.now c.stored.new.self c.stored.result (rw (← c.if-is_length_of.ensures) c.stored.ensures)
