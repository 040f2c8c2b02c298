use Rattle.std.proofs.Common.{length}
use Rattle.js_values.specs.declared.value.Value.TheVariants.{Num, Text as Words}
use Rattle.page_meaning.specs.Act.{also, give}
use Rattle.page_meaning.specs.Convert.{number_in, text_in, to_number, to_text}
use Rattle.page_meaning.specs.StringRows as text
use Rattle.page_state.specs.Does.{itself}
use Rattle.page_state.proofs.Callers.{also_gives, failed}
use Rattle.builtin_text.proofs.texts.last_index_of.Goals as goal

pub returns-in_err-part : goal.returns-in_err-part
returns-in_err-part c = failed (λ calls. to_text calls c.args.part.now) (λ calls x. also (to_number calls c.args.position.now) (λ n. give (Num (text.place_number (text.last_place c.args.text.now (text_in x) (text.last_start (length c.args.text.now) (number_in n))))))) itself c.args.state.now c.to_text.new.self c.in_err-part.field-0.0 c.from_residual.result c.in_err-part.ensures c.from_residual.ensures

pub returns : goal.returns
returns c = also_gives (λ calls. to_text calls c.args.part.now) (λ calls x. also (to_number calls c.args.position.now) (λ n. give (Num (text.place_number (text.last_place c.args.text.now (text_in x) (text.last_start (length c.args.text.now) (number_in n))))))) itself (Words c.in_ok-part.part) c.args.state.now c.to_text.new.self c.last_index_from.new.state c.last_index_from.result c.in_ok-part.ensures c.last_index_from.ensures
