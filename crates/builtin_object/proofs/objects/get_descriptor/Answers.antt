use Rattle.js_values.specs.declared.value.Value.TheVariants.{Text as Words}
use Rattle.object_heap.specs.Property.{own_property}
use Rattle.page_meaning.specs.Act.{asking}
use Rattle.page_meaning.specs.Convert.{text_in, to_text}
use Rattle.page_meaning.specs.ObjectRows as object
use Rattle.page_state.specs.Does.{itself}
use Rattle.page_state.proofs.Callers.{also_gives, failed}
use Rattle.builtin_object.proofs.objects.get_descriptor.Goals as goal

pub returns-in_err-name : goal.returns-in_err-name
returns-in_err-name c = failed (λ calls. to_text calls c.args.name.now) (λ _ x. asking (λ s. own_property (object.props_at s c.args.at) (text_in x)) object.described) itself c.args.state.now c.to_text.new.self c.in_err-name.field-0.0 c.from_residual.result c.in_err-name.ensures c.from_residual.ensures

pub returns : goal.returns
returns c = also_gives (λ calls. to_text calls c.args.name.now) (λ _ x. asking (λ s. own_property (object.props_at s c.args.at) (text_in x)) object.described) itself (Words c.in_ok-name.name) c.args.state.now c.to_text.new.self c.described.new.state c.described.result c.in_ok-name.ensures c.described.ensures
