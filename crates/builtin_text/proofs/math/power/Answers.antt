use Rattle.js_values.specs.declared.value.Value.TheVariants.{Num}
use Rattle.page_meaning.specs.Act.{also}
use Rattle.page_meaning.specs.Convert.{as_number, number_in, to_number}
use Rattle.page_meaning.specs.Errors.{settle}
use Rattle.whole_ops.specs.Power.{whole_pow}
use Rattle.page_state.proofs.Callers.{also_gives, failed}
use Rattle.builtin_text.proofs.math.power.Goals as goal

pub returns-in_err-base : goal.returns-in_err-base
returns-in_err-base c = failed (λ calls. to_number calls c.args.base.now) (λ calls x. also (to_number calls c.args.exponent.now) (λ b. settle (as_number (whole_pow (number_in x) (number_in b))))) (λ x. Num x) c.args.state.now c.to_number.new.self c.in_err-base.field-0.0 c.from_residual.result c.in_err-base.ensures c.from_residual.ensures

pub returns : goal.returns
returns c = also_gives (λ calls. to_number calls c.args.base.now) (λ calls x. also (to_number calls c.args.exponent.now) (λ b. settle (as_number (whole_pow (number_in x) (number_in b))))) (λ x. Num x) (Num c.in_ok-base.base) c.args.state.now c.to_number.new.self c.power_of.new.state c.power_of.result c.in_ok-base.ensures c.power_of.ensures
