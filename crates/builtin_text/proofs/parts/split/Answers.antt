use Rattle.std.proofs.Common.{Ok}
use Rattle.js_values.specs.declared.value.Value.TheVariants.{Num, Object}
use Rattle.page_meaning.specs.Act.{also}
use Rattle.page_meaning.specs.Convert.{number_in, text_in, to_number, to_text}
use Rattle.page_meaning.specs.StringRows as text
use Rattle.page_state.specs.Does.{itself}
use Rattle.page_state.proofs.Callers.{also_gives, failed}
use Rattle.builtin_text.proofs.Handed.{handed}
use Rattle.builtin_text.proofs.parts.split.Goals as goal

pub returns-in_err-number : goal.returns-in_err-number
returns-in_err-number c = failed (λ calls. to_number calls c.args.limit.now) (λ calls x. also (to_text calls c.args.separator.now) (λ y. text.split_by c.args.separator.now (text_in y) (text.part_limit c.args.limit.now (number_in x)) c.args.text.now)) itself c.args.state.now c.to_number.new.self c.in_err-number.field-0.0 c.from_residual.result c.in_err-number.ensures c.from_residual.ensures

pub returns-in_err-parts : goal.returns-in_err-parts
returns-in_err-parts c = also_gives (λ calls. to_number calls c.args.limit.now) (λ calls x. also (to_text calls c.args.separator.now) (λ y. text.split_by c.args.separator.now (text_in y) (text.part_limit c.args.limit.now (number_in x)) c.args.text.now)) itself (Num c.in_ok-number.number) c.args.state.now c.to_number.new.self c.split_within.new.state c.from_residual-in_err-parts.result c.in_ok-number.ensures (handed (λ calls. also (to_text calls c.args.separator.now) (λ y. text.split_by c.args.separator.now (text_in y) (text.part_limit c.args.limit.now c.in_ok-number.number) c.args.text.now)) itself c.to_number.new.self c.split_within.new.state c.in_err-parts.field-0.0 c.from_residual-in_err-parts.result (rw c.part_limit.ensures at c.in_err-parts.ensures) c.from_residual-in_err-parts.ensures)

pub returns : goal.returns
returns c = also_gives (λ calls. to_number calls c.args.limit.now) (λ calls x. also (to_text calls c.args.separator.now) (λ y. text.split_by c.args.separator.now (text_in y) (text.part_limit c.args.limit.now (number_in x)) c.args.text.now)) itself (Num c.in_ok-number.number) c.args.state.now c.to_number.new.self c.split_within.new.state (Ok (Object c.in_ok-parts.parts)) c.in_ok-number.ensures (rw c.part_limit.ensures at c.in_ok-parts.ensures)
