use Rattle.js_values.specs.declared.value.Value.TheVariants.{Text as Words, Object}
use Rattle.page_meaning.specs.Convert.{text_in, to_text}
use Rattle.page_meaning.specs.StringRows as text
use Rattle.page_state.proofs.Callers.{also_gives, failed}
use Rattle.builtin_text.proofs.parts.split_within.Goals as goal

pub returns-in_err-between : goal.returns-in_err-between
returns-in_err-between c = failed (λ calls. to_text calls c.args.separator.now) (λ calls x. text.split_by c.args.separator.now (text_in x) c.args.limit c.args.text.now) (λ x. Object x) c.args.state.now c.to_text.new.self c.in_err-between.field-0.0 c.from_residual.result c.in_err-between.ensures c.from_residual.ensures

pub returns : goal.returns
returns c = also_gives (λ calls. to_text calls c.args.separator.now) (λ calls x. text.split_by c.args.separator.now (text_in x) c.args.limit c.args.text.now) (λ x. Object x) (Words c.in_ok-between.between) c.args.state.now c.to_text.new.self c.split_by.new.state c.split_by.result c.in_ok-between.ensures c.split_by.ensures
