use Rattle.std.proofs.Common.{Ok}
use Rattle.std.specs.Prelude.{is_some}
use Rattle.js_values.specs.declared.value.Value.TheVariants.{Num, Bool as Truth}
use Rattle.page_meaning.specs.Act.{give}
use Rattle.page_meaning.specs.Convert.{number_in, to_number}
use Rattle.page_state.specs.Does.{itself}
use Rattle.page_state.proofs.Callers.{also_gives, failed, given}
use Rattle.builtin_text.proofs.numbers.is_finite.Goals as goal

pub returns-in_err-number : goal.returns-in_err-number
returns-in_err-number c = failed (λ calls. to_number calls c.args.value.now) (λ calls x. give (Truth (is_some (number_in x)))) itself c.args.state.now c.to_number.new.self c.in_err-number.field-0.0 c.from_residual.result c.in_err-number.ensures c.from_residual.ensures

pub returns : goal.returns
returns c = also_gives (λ calls. to_number calls c.args.value.now) (λ calls x. give (Truth (is_some (number_in x)))) itself (Num c.in_ok-number.number) c.args.state.now c.to_number.new.self c.to_number.new.self (Ok (Truth c.is_number.result)) c.in_ok-number.ensures (rw (c.is_number.ensures) (given _ c.to_number.new.self))
