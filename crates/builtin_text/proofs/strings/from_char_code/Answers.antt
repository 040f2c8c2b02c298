use Rattle.std.proofs.Common.{◌++◌, ◌∷◌, []}
use Rattle.js_values.specs.declared.value.Value.TheVariants.{Num}
use Rattle.page_meaning.specs.Convert.{number_in, to_number}
use Rattle.page_meaning.specs.StringRows as text
use Rattle.page_state.specs.Does.{itself}
use Rattle.builtin_text.proofs.Each.{each_on, each_fails}
use Rattle.std.proofs.Common.{refl}
use Rattle.std.proofs.Math.ListN.{drop_of_length-le}
use Rattle.builtin_text.proofs.strings.from_char_code.Goals as goal

pub returns-in_err-number : goal.returns-in_err-number
returns-in_err-number c = c.loop-value.invariant c.to_number.new.self c.from_residual.result (each_fails (λ c vs a. text.from_units c vs a) (λ c v a. to_number c v) (λ x a. a ++ text.to_uint16 (number_in x) ∷ []) itself (λ c v vs a. refl) c.args.values.now c.loop-value.value-index c.value-item.result c.loop-value.units.items c.loop-value.state c.to_number.new.self c.in_err-number.field-0.0 c.from_residual.result c.loop-value-test.true c.value-item.is c.in_err-number.ensures c.from_residual.ensures)

pub loop-value-preserved : goal.loop-value-preserved
loop-value-preserved c t r g = c.loop-value.invariant t r (each_on (λ c vs a. text.from_units c vs a) (λ c v a. to_number c v) (λ x a. a ++ text.to_uint16 (number_in x) ∷ []) itself (λ c v vs a. refl) c.args.values.now c.loop-value.value-index c.value-item.result c.loop-value.units.items (Num c.in_ok-number.number) c.loop-value.state c.to_number.new.self t r c.loop-value-test.true c.value-item.is c.in_ok-number.ensures (rw (c.in_ok-push.ensures, c.to_uint16.ensures) at g))

pub returns : goal.returns
returns c = c.loop-value.invariant c.give_text.new.state c.give_text.result (rw (drop_of_length-le c.args.values.now c.loop-value-test.false) (rw c.as_slice.ensures.value at c.give_text.ensures))
