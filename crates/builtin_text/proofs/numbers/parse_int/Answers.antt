use Rattle.js_values.specs.declared.value.Value.TheVariants.{Num, Text as Words}
use Rattle.page_meaning.specs.Act.{also}
use Rattle.page_meaning.specs.Convert.{as_number, number_in, text_in, to_number, to_text}
use Rattle.page_meaning.specs.Errors.{settle}
use Rattle.page_meaning.specs.NumberRows as number
use Rattle.page_state.proofs.Callers.{also_gives, failed}
use Rattle.builtin_text.proofs.numbers.parse_int.Goals as goal

pub returns-in_err-text : goal.returns-in_err-text
returns-in_err-text c = failed (λ calls. to_text calls c.args.text.now) (λ calls x. also (to_number calls c.args.radix.now) (λ r. settle (as_number (number.parsed (text_in x) (number_in r))))) (λ x. Num x) c.args.state.now c.to_text.new.self c.in_err-text.field-0.0 c.from_residual.result c.in_err-text.ensures c.from_residual.ensures

pub returns : goal.returns
returns c = also_gives (λ calls. to_text calls c.args.text.now) (λ calls x. also (to_number calls c.args.radix.now) (λ r. settle (as_number (number.parsed (text_in x) (number_in r))))) (λ x. Num x) (Words c.in_ok-text.text) c.args.state.now c.to_text.new.self c.parse_text.new.state c.parse_text.result c.in_ok-text.ensures c.parse_text.ensures
