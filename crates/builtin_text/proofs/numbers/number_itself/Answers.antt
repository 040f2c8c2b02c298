use Rattle.js_values.specs.declared.value.Value.TheVariants.{Num}
use Rattle.page_meaning.specs.Act.{give}
use Rattle.builtin_text.proofs.ThisKinds.{no_number}
use Rattle.builtin_text.proofs.numbers.number_itself.Goals as goal

pub returns-in_default : goal.returns-in_default
returns-in_default c = no_number c.args.this.now (λ _ n. give (Num n)) c.args.state.now c.raise.new.self c.raise.result c.in_default.not-Num c.raise.ensures
