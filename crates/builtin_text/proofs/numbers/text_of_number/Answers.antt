use Rattle.std.proofs.Common.{sym, Ok, ◌∙◌}
use Rattle.js_values.specs.declared.value.Value.TheVariants.{Num, Text as Words}
use Rattle.page_meaning.specs.Convert.{number_in, to_number}
use Rattle.page_meaning.specs.Errors.{settle}
use Rattle.page_meaning.specs.NumberRows as number
use Rattle.page_state.specs.Does.{itself}
use Rattle.page_state.proofs.Callers.{also_gives, failed, given}
use Rattle.std.proofs.Common.{Err}
use Rattle.builtin_text.proofs.numbers.text_of_number.Goals as goal

pub returns-in_err-asked : goal.returns-in_err-asked
returns-in_err-asked c = failed (λ calls. to_number calls c.args.radix.now) (λ calls x. settle (number.text_or_outside c.args.number (number.radix_of c.args.radix.now (number_in x)))) itself c.args.state.now c.to_number.new.self c.in_err-asked.field-0.0 c.from_residual.result c.in_err-asked.ensures c.from_residual.ensures

pub returns-in_ok-text_in_radix-in-Some : goal.returns-in_ok-text_in_radix-in-Some
returns-in_ok-text_in_radix-in-Some c = also_gives (λ calls. to_number calls c.args.radix.now) (λ calls x. settle (number.text_or_outside c.args.number (number.radix_of c.args.radix.now (number_in x)))) itself (Num c.in_ok-asked.asked) c.args.state.now c.to_number.new.self c.to_number.new.self (Ok (Words c.in_ok-text_in_radix-in-Some.field-0)) c.in_ok-asked.ensures (rw (sym c.radix_of.ensures.value ∙ c.in-Some.is, c.in_ok-text_in_radix-in-Some.ensures) (given (Words (number.text_in_radix c.in-Some.base c.args.number)) c.to_number.new.self))

pub returns-in-None : goal.returns-in-None
returns-in-None c = also_gives (λ calls. to_number calls c.args.radix.now) (λ calls x. settle (number.text_or_outside c.args.number (number.radix_of c.args.radix.now (number_in x)))) itself (Num c.in_ok-asked.asked) c.args.state.now c.to_number.new.self c.raise.new.self (Err c.raise.result) c.in_ok-asked.ensures (rw (sym c.radix_of.ensures.value ∙ c.in-None.is) c.raise.ensures)
