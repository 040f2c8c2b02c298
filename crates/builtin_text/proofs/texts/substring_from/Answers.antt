use Rattle.js_values.specs.declared.value.Value.TheVariants.{Num}
use Rattle.page_meaning.specs.Convert.{number_in, to_number}
use Rattle.page_meaning.specs.StringRows as text
use Rattle.page_state.specs.Does.{itself}
use Rattle.page_state.proofs.Callers.{also_gives, failed}
use Rattle.builtin_text.proofs.texts.substring_from.Goals as goal

pub returns-in_err-to : goal.returns-in_err-to
returns-in_err-to c = failed (λ calls. to_number calls c.args.end.now) (λ calls x. text.give_text (text.substring_of c.args.text.now c.args.end.now c.args.from (number_in x))) itself c.args.state.now c.to_number.new.self c.in_err-to.field-0.0 c.from_residual.result c.in_err-to.ensures c.from_residual.ensures

pub returns : goal.returns
returns c = also_gives (λ calls. to_number calls c.args.end.now) (λ calls x. text.give_text (text.substring_of c.args.text.now c.args.end.now c.args.from (number_in x))) itself (Num c.in_ok-to.to) c.args.state.now c.to_number.new.self c.give_text.new.state c.give_text.result c.in_ok-to.ensures (rw (c.substring_of.ensures, c.as_slice.ensures.value) at c.give_text.ensures)
