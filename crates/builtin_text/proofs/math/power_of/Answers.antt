use Rattle.js_values.specs.declared.value.Value.TheVariants.{Num}
use Rattle.page_meaning.specs.Convert.{as_number, number_in, to_number}
use Rattle.page_meaning.specs.Errors.{settle}
use Rattle.whole_ops.specs.Power.{whole_pow}
use Rattle.page_state.proofs.Callers.{also_gives, failed}
use Rattle.builtin_text.proofs.math.power_of.Goals as goal

pub returns-in_err-exponent : goal.returns-in_err-exponent
returns-in_err-exponent c = failed (λ calls. to_number calls c.args.exponent.now) (λ calls x. settle (as_number (whole_pow c.args.base (number_in x)))) (λ x. Num x) c.args.state.now c.to_number.new.self c.in_err-exponent.field-0.0 c.from_residual.result c.in_err-exponent.ensures c.from_residual.ensures

pub returns : goal.returns
returns c = also_gives (λ calls. to_number calls c.args.exponent.now) (λ calls x. settle (as_number (whole_pow c.args.base (number_in x)))) (λ x. Num x) (Num c.in_ok-exponent.exponent) c.args.state.now c.to_number.new.self c.in_range.new.self c.in_range.result c.in_ok-exponent.ensures (rw c.pow.ensures at c.in_range.ensures)
