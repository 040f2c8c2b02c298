use Rattle.js_values.specs.declared.value.Value.TheVariants.{Num}
use Rattle.page_meaning.specs.Act.{also}
use Rattle.page_meaning.specs.Convert.{number_in, number_of}
use Rattle.page_meaning.specs.Errors.{settle}
use Rattle.page_state.specs.Does.{itself}
use Rattle.page_state.specs.Operating.{numeric}
use Rattle.page_state.proofs.Does.{also_gives, failed}
use Rattle.page_state.proofs.state.State.as_numbers.Goals as goal

pub returns-in_err-a : goal.returns-in_err-a
returns-in_err-a c =
    failed (λ _. settle (number_of c.args.left.now))
    (λ _ a. also (settle (number_of c.args.right.now)) (λ b. settle (numeric c.args.op (number_in a) (number_in b)))) itself
    c.args.self.now c.primitive_number.new.self c.in_err-a.field-0.0 c.from_residual.result c.in_err-a.ensures c.from_residual.ensures

pub returns : goal.returns
returns c =
    also_gives (λ _. settle (number_of c.args.left.now))
    (λ _ a. also (settle (number_of c.args.right.now)) (λ b. settle (numeric c.args.op (number_in a) (number_in b)))) itself
    (Num c.in_ok-a.a) c.args.self.now c.primitive_number.new.self c.with_primitive.new.self c.with_primitive.result c.in_ok-a.ensures c.with_primitive.ensures
