use Rattle.page_state.specs.Does.{itself}
use Rattle.builtin_text.proofs.Firsts.{first_text}
use Rattle.builtin_text.proofs.strings.text_of_first.Goals as goal

pub returns-in-len1-up : goal.returns-in-len1-up
returns-in-len1-up c = first_text itself c.args.values.now c.value-item.result c.args.state.now c.text_value.new.state c.text_value.result c.in-len1-up.len_at_least c.value-item.is c.text_value.ensures
