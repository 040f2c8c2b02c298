use Rattle.js_values.specs.declared.value.Value.TheVariants.{Num}
use Rattle.builtin_text.proofs.Firsts.{first_number}
use Rattle.builtin_text.proofs.numbers.number_of_first.Goals as goal

pub returns-in-len1-up : goal.returns-in-len1-up
returns-in-len1-up c = first_number (λ x. Num x) c.args.values.now c.value-item.result c.args.state.now c.to_number.new.self c.to_number.result c.in-len1-up.len_at_least c.value-item.is c.to_number.ensures
