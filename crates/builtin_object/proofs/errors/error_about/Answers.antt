use Rattle.std.specs.Prelude.{refl}
use Rattle.js_values.specs.declared.value.Value.TheVariants.{Object, Text as Words}
use Rattle.page_meaning.specs.Act.{bind}
use Rattle.page_meaning.specs.Convert.{text_in, to_text}
use Rattle.page_meaning.specs.Functions.{object_of}
use Rattle.page_meaning.specs.Primitives.{make}
use Rattle.page_meaning.specs.ValueRows as value
use Rattle.page_state.proofs.Callers.{also_gives, failed}
use Rattle.builtin_object.proofs.errors.error_about.Goals as goal

pub returns-in_err-message : goal.returns-in_err-message
returns-in_err-message c = failed (λ calls. to_text calls c.args.value.now) (λ _ t. bind (make (value.error_saying c.args.kind (text_in t)) (value.saying_fit c.args.kind (text_in t)) refl) object_of) (λ x. Object x) c.args.state.now c.to_text.new.self c.in_err-message.field-0.0 c.from_residual.result c.in_err-message.ensures c.from_residual.ensures

pub returns : goal.returns
returns c = also_gives (λ calls. to_text calls c.args.value.now) (λ _ t. bind (make (value.error_saying c.args.kind (text_in t)) (value.saying_fit c.args.kind (text_in t)) refl) object_of) (λ x. Object x) (Words c.in_ok-message.message) c.args.state.now c.to_text.new.self c.error_saying.new.state c.error_saying.result c.in_ok-message.ensures c.error_saying.ensures
