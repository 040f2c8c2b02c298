use Rattle.js_values.specs.declared.value.Value.TheVariants.{Num}
use Rattle.page_meaning.specs.Convert.{number_in, to_number}
use Rattle.page_meaning.specs.Errors.{settle}
use Rattle.page_state.specs.Does.{itself}
use Rattle.page_state.specs.Operating.{numeric}
use Rattle.page_state.proofs.Does.{also_gives, failed}
use Rattle.page_state.proofs.state.State.with_right.Goals as goal

pub returns-in_err-b : goal.returns-in_err-b
returns-in_err-b c =
    failed (λ calls. to_number calls c.args.right.now) (λ calls b. settle (numeric c.args.op c.args.a (number_in b))) itself
    c.args.self.now c.to_number.new.self c.in_err-b.field-0.0 c.from_residual.result c.in_err-b.ensures c.from_residual.ensures

pub returns : goal.returns
returns c =
    also_gives (λ calls. to_number calls c.args.right.now) (λ calls b. settle (numeric c.args.op c.args.a (number_in b))) itself (Num c.in_ok-b.b)
    c.args.self.now c.to_number.new.self c.settle.new.self c.settle.result c.in_ok-b.ensures (rw (← c.apply.ensures) c.settle.ensures)
