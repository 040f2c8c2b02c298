use Rattle.std.proofs.Common.{Ok}
use Rattle.std.specs.Prelude.{pos, option_map, unsigned_abs}
use Rattle.js_values.specs.declared.value.Value.TheVariants.{Num}
use Rattle.page_meaning.specs.Act.{give}
use Rattle.page_meaning.specs.Convert.{number_in, to_number}
use Rattle.page_state.proofs.Callers.{also_gives, failed, given}
use Rattle.builtin_text.proofs.math.abs.Goals as goal

pub returns-in_err-number : goal.returns-in_err-number
returns-in_err-number c = failed (λ calls. to_number calls c.args.value.now) (λ calls x. give (Num (option_map (λ z. pos (unsigned_abs z)) (number_in x)))) (λ x. Num x) c.args.state.now c.to_number.new.self c.in_err-number.field-0.0 c.from_residual.result c.in_err-number.ensures c.from_residual.ensures

pub returns : goal.returns
returns c = also_gives (λ calls. to_number calls c.args.value.now) (λ calls x. give (Num (option_map (λ z. pos (unsigned_abs z)) (number_in x)))) (λ x. Num x) (Num c.in_ok-number.number) c.args.state.now c.to_number.new.self c.to_number.new.self (Ok c.absolute.result) c.in_ok-number.ensures (rw (c.absolute.ensures) (given _ c.to_number.new.self))
