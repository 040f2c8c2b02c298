use Rattle.page_meaning.specs.Act.{give}
use Rattle.page_meaning.specs.Convert.{a_text, text_of, to_primitive}
use Rattle.js_values.specs.declared.value.Value.TheVariants.{Text}
use Rattle.page_state.proofs.Does.{also_raises}
use Rattle.page_state.proofs.state.State.to_text.Goals as goal

pub returns-in-Object : goal.returns-in-Object
returns-in-Object c = also_raises (λ calls. to_primitive calls a_text c.args.value.now) (λ _ p. give (Text (text_of p))) c.args.self.now c.raise.new.self c.raise.result (rw c.in-Object.is c.raise.ensures)
