use Rattle.std.proofs.Common.{refl, Ok}
use Rattle.js_values.specs.declared.value.Value.TheVariants.{Num}
use Rattle.whole_ops.specs.Bits.{whole_not}
use Rattle.page_meaning.specs.Act.{give}
use Rattle.page_meaning.specs.Convert.{number_in, to_number}
use Rattle.page_state.specs.Does.{itself}
use Rattle.page_state.proofs.Does.{also_gives, failed}
use Rattle.page_state.proofs.state.State.bit_not.Goals as goal

pub returns-in_err-number : goal.returns-in_err-number
returns-in_err-number c =
    failed (λ calls. to_number calls c.args.value.now) (λ _ n. give (Num (whole_not (number_in n)))) itself
    c.args.self.now c.to_number.new.self c.in_err-number.field-0.0 c.from_residual.result c.in_err-number.ensures c.from_residual.ensures

pub returns : goal.returns
returns c =
    also_gives (λ calls. to_number calls c.args.value.now) (λ _ n. give (Num (whole_not (number_in n)))) itself
    (Num c.in_ok-number.number) c.args.self.now c.to_number.new.self c.to_number.new.self (Ok (Num c.not.result)) c.in_ok-number.ensures
    (record { is = λ calls n. rw c.not.ensures refl })
