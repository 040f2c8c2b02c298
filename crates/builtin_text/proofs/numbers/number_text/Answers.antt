use Rattle.page_meaning.specs.NumberRows as number
use Rattle.builtin_text.proofs.ThisKinds.{no_number}
use Rattle.builtin_text.proofs.numbers.number_text.Goals as goal

pub returns-in-Num : goal.returns-in-Num
returns-in-Num c = rw c.in-Num.is c.text_of_number.ensures

pub returns-in_default : goal.returns-in_default
returns-in_default c = no_number c.args.this.now (λ calls. number.number_text calls c.args.radix.now) c.args.state.now c.raise.new.self c.raise.result c.in_default.not-Num c.raise.ensures
