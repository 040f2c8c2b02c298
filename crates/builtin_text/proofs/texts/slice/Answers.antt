use Rattle.js_values.specs.declared.value.Value.TheVariants.{Num}
use Rattle.page_meaning.specs.Act.{also}
use Rattle.page_meaning.specs.Convert.{number_in, to_number}
use Rattle.page_meaning.specs.StringRows as text
use Rattle.page_state.specs.Does.{itself}
use Rattle.page_state.proofs.Callers.{also_gives, failed}
use Rattle.builtin_text.proofs.texts.slice.Goals as goal

pub returns-in_err-from : goal.returns-in_err-from
returns-in_err-from c = failed (λ calls. to_number calls c.args.start.now) (λ calls x. also (to_number calls c.args.end.now) (λ b. text.give_text (text.sliced c.args.text.now c.args.end.now (number_in x) (number_in b)))) itself c.args.state.now c.to_number.new.self c.in_err-from.field-0.0 c.from_residual.result c.in_err-from.ensures c.from_residual.ensures

pub returns : goal.returns
returns c = also_gives (λ calls. to_number calls c.args.start.now) (λ calls x. also (to_number calls c.args.end.now) (λ b. text.give_text (text.sliced c.args.text.now c.args.end.now (number_in x) (number_in b)))) itself (Num c.in_ok-from.from) c.args.state.now c.to_number.new.self c.slice_from.new.state c.slice_from.result c.in_ok-from.ensures c.slice_from.ensures
