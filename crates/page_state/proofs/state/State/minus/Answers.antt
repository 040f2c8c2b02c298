use Rattle.std.proofs.Common.{Some, pos}
use Rattle.js_values.specs.declared.value.Value.TheVariants.{Num}
use Rattle.whole_ops.specs.Arithmetic.{whole_sub}
use Rattle.page_meaning.specs.Convert.{as_number, number_in, to_number}
use Rattle.page_meaning.specs.Errors.{settle}
use Rattle.page_state.specs.Does.{itself}
use Rattle.page_state.proofs.Does.{also_gives, failed}
use Rattle.page_state.proofs.state.State.minus.Goals as goal

pub returns-in_err-number : goal.returns-in_err-number
returns-in_err-number c =
    failed (λ calls. to_number calls c.args.value.now) (λ _ n. settle (as_number (whole_sub (Some (pos 0)) (number_in n)))) itself
    c.args.self.now c.to_number.new.self c.in_err-number.field-0.0 c.from_residual.result c.in_err-number.ensures c.from_residual.ensures

pub returns : goal.returns
returns c =
    also_gives (λ calls. to_number calls c.args.value.now) (λ _ n. settle (as_number (whole_sub (Some (pos 0)) (number_in n)))) itself
    (Num c.in_ok-number.number) c.args.self.now c.to_number.new.self c.negated.new.self c.negated.result c.in_ok-number.ensures c.negated.ensures
