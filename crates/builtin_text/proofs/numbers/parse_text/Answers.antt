use Rattle.js_values.specs.declared.value.Value.TheVariants.{Num}
use Rattle.page_meaning.specs.Convert.{as_number, number_in, to_number}
use Rattle.page_meaning.specs.Errors.{settle}
use Rattle.page_meaning.specs.NumberRows as number
use Rattle.page_state.proofs.Callers.{also_gives, failed}
use Rattle.builtin_text.proofs.numbers.parse_text.Goals as goal

pub returns-in_err-radix : goal.returns-in_err-radix
returns-in_err-radix c = failed (λ calls. to_number calls c.args.radix.now) (λ calls x. settle (as_number (number.parsed c.args.text.now (number_in x)))) (λ x. Num x) c.args.state.now c.to_number.new.self c.in_err-radix.field-0.0 c.from_residual.result c.in_err-radix.ensures c.from_residual.ensures

pub returns : goal.returns
returns c = also_gives (λ calls. to_number calls c.args.radix.now) (λ calls x. settle (as_number (number.parsed c.args.text.now (number_in x)))) (λ x. Num x) (Num c.in_ok-radix.radix) c.args.state.now c.to_number.new.self c.in_range.new.self c.in_range.result c.in_ok-radix.ensures (rw (c.parsed.ensures, c.as_slice.ensures.value) at c.in_range.ensures)
