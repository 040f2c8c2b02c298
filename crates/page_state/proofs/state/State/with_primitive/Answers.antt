use Rattle.js_values.specs.declared.value.Value.TheVariants.{Num}
use Rattle.page_meaning.specs.Convert.{number_in, number_of}
use Rattle.page_meaning.specs.Errors.{settle}
use Rattle.page_state.specs.Does.{itself}
use Rattle.page_state.specs.Operating.{numeric}
use Rattle.page_state.proofs.Does.{also_gives, failed}
use Rattle.page_state.proofs.state.State.with_primitive.Goals as goal

pub returns-in_err-number : goal.returns-in_err-number
returns-in_err-number c =
    failed (λ _. settle (number_of c.args.right.now)) (λ _ b. settle (numeric c.args.op c.args.a (number_in b))) itself
    c.args.self.now c.primitive_number.new.self c.in_err-number.field-0.0 c.from_residual.result c.in_err-number.ensures c.from_residual.ensures

pub returns : goal.returns
returns c =
    also_gives (λ _. settle (number_of c.args.right.now)) (λ _ b. settle (numeric c.args.op c.args.a (number_in b))) itself (Num c.in_ok-number.number)
    c.args.self.now c.primitive_number.new.self c.settle.new.self c.settle.result c.in_ok-number.ensures (rw (← c.apply.ensures) c.settle.ensures)
