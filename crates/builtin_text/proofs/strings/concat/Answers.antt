use Rattle.std.proofs.Common.{refl, Ok}
use Rattle.std.proofs.Math.ListN.{drop_of_length-le}
use Rattle.js_values.specs.declared.value.Value.TheVariants.{Text as Words}
use Rattle.page_meaning.specs.Convert.{text_in}
use Rattle.page_meaning.specs.StringRows as text
use Rattle.page_state.specs.Does.{itself}
use Rattle.page_state.proofs.Callers.{given}
use Rattle.builtin_text.proofs.Each.{each_on, each_fails}
use Rattle.builtin_text.proofs.strings.concat.Goals as goal

pub loop-value-init : goal.loop-value-init
loop-value-init c t r g = rw (c.in_ok-units.ensures, c.as_slice.ensures.value) at g

pub returns-in_err-join : goal.returns-in_err-join
returns-in_err-join c = (c.loop-value.invariant c.join.new.state c.from_residual-in_err-join.result (each_fails (λ d vs a. text.joined_to d vs a) (λ d v a. text.join d v a) (λ x a. text_in x) itself (λ d v vs a. refl) c.args.values.now c.loop-value.value-index c.value-item.result c.loop-value.units.items c.loop-value.state c.join.new.state c.in_err-join.field-0.0 c.from_residual-in_err-join.result c.loop-value-test.true c.value-item.is c.in_err-join.ensures c.from_residual-in_err-join.ensures))

pub loop-value-preserved : goal.loop-value-preserved
loop-value-preserved c t r g = c.loop-value.invariant t r (each_on (λ d vs a. text.joined_to d vs a) (λ d v a. text.join d v a) (λ x a. text_in x) itself (λ d v vs a. refl) c.args.values.now c.loop-value.value-index c.value-item.result c.loop-value.units.items (Words c.join.new.units.items) c.loop-value.state c.join.new.state t r c.loop-value-test.true c.value-item.is c.in_ok-join.ensures g)

pub returns : goal.returns
returns c = (c.loop-value.invariant c.loop-value.state (Ok (Words c.in_ok-of.field-0)) (rw (drop_of_length-le c.args.values.now c.loop-value-test.false, c.in_ok-of.ensures, c.as_slice-2.ensures.value) (given (Words c.loop-value.units.items) c.loop-value.state)))
