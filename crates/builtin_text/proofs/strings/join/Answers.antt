use Rattle.std.proofs.Common.{◌++◌}
use Rattle.js_values.specs.declared.value.Value.TheVariants.{Text as Words}
use Rattle.page_meaning.specs.Convert.{text_in, to_text}
use Rattle.page_meaning.specs.StringRows as text
use Rattle.page_state.proofs.Callers.{also_gives, failed}
use Rattle.builtin_text.specs.Texts.{for_text}
use Rattle.builtin_text.proofs.strings.join.Goals as goal

pub returns-in_err-more : goal.returns-in_err-more
returns-in_err-more c = failed (λ calls. to_text calls c.args.value.now) (λ calls x. text.give_text (c.args.units.now.items ++ text_in x)) (for_text c.args.units.now.items) c.args.state.now c.to_text.new.self c.in_err-more.field-0.0 c.from_residual.result c.in_err-more.ensures c.from_residual.ensures

pub returns : goal.returns
returns c = also_gives (λ calls. to_text calls c.args.value.now) (λ calls x. text.give_text (c.args.units.now.items ++ text_in x)) (for_text c.append.new.units.items) (Words c.in_ok-more.more) c.args.state.now c.to_text.new.self c.append.new.state c.append.result c.in_ok-more.ensures (rw c.as_slice.ensures.value at c.append.ensures)
