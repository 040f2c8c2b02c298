use Rattle.std.proofs.Common.{Ok, length}
use Rattle.js_values.specs.declared.value.Value.TheVariants.{Num}
use Rattle.page_meaning.specs.Act.{give}
use Rattle.page_meaning.specs.Convert.{number_in, to_number}
use Rattle.page_meaning.specs.StringRows as text
use Rattle.page_state.specs.Does.{itself}
use Rattle.page_state.proofs.Callers.{also_gives, failed, given}
use Rattle.builtin_text.proofs.texts.last_index_from.Goals as goal

pub returns-in_err-position : goal.returns-in_err-position
returns-in_err-position c = failed (λ calls. to_number calls c.args.position.now) (λ calls x. give (Num (text.place_number (text.last_place c.args.text.now c.args.part.now (text.last_start (length c.args.text.now) (number_in x)))))) itself c.args.state.now c.to_number.new.self c.in_err-position.field-0.0 c.from_residual.result c.in_err-position.ensures c.from_residual.ensures

pub returns : goal.returns
returns c = also_gives (λ calls. to_number calls c.args.position.now) (λ calls x. give (Num (text.place_number (text.last_place c.args.text.now c.args.part.now (text.last_start (length c.args.text.now) (number_in x)))))) itself (Num c.in_ok-position.position) c.args.state.now c.to_number.new.self c.to_number.new.self (Ok (Num c.in_ok-place_number.field-0)) c.in_ok-position.ensures (rw (c.in_ok-place_number.ensures, c.last_place_from-place.ensures) (given (Num (text.place_number (text.last_place c.args.text.now c.args.part.now (text.last_start (length c.args.text.now) c.in_ok-position.position)))) c.to_number.new.self))
