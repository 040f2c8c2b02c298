use Rattle.page_meaning.specs.Act.{give}
use Rattle.page_meaning.specs.Errors.{raise}
use Rattle.page_meaning.specs.Properties.{stored}
use Rattle.js_values.specs.declared.value.Value.TheVariants.{Num}
use Rattle.page_state.specs.Does.{itself}
use Rattle.page_state.proofs.Does.{also_gives, also_raises, given}
use Rattle.page_state.proofs.state.State.store_length.Goals as goal

pub returns-in-Ok : goal.returns-in-Ok
returns-in-Ok c = rw (← c.in-Ok.ensures) (also_gives (λ _. give (Num c.in-Ok.number)) (λ _. stored c.args.at c.args.name.now) itself (Num c.in-Ok.number) c.args.self.now c.args.self.now c.stored.new.self c.stored.result (given (Num c.in-Ok.number) c.args.self.now) c.stored.ensures)

pub returns-in-Err : goal.returns-in-Err
returns-in-Err c = rw (← c.in-Err.ensures) (also_raises (λ _. raise c.in-Err.what) (λ _. stored c.args.at c.args.name.now) c.args.self.now c.raise.new.self c.raise.result c.raise.ensures)
