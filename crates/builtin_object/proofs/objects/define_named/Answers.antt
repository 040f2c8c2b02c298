use Rattle.js_values.specs.declared.value.Value.TheVariants.{Object, Text as Words}
use Rattle.page_meaning.specs.Act.{asking}
use Rattle.page_meaning.specs.Convert.{text_in, to_text}
use Rattle.page_meaning.specs.Descriptors as descriptor
use Rattle.page_meaning.specs.ObjectRows as object
use Rattle.page_state.proofs.Callers.{also_gives, failed}
use Rattle.builtin_object.proofs.objects.define_named.Goals as goal

pub returns-in_err-name : goal.returns-in_err-name
returns-in_err-name c = failed (λ calls. to_text calls c.args.name.now) (λ _ x. asking (λ s. descriptor.change_in s c.args.descriptor.now) (object.define_as c.args.at (text_in x))) (λ x. Object x) c.args.state.now c.to_text.new.self c.in_err-name.field-0.0 c.from_residual.result c.in_err-name.ensures c.from_residual.ensures

pub returns : goal.returns
returns c = also_gives (λ calls. to_text calls c.args.name.now) (λ _ x. asking (λ s. descriptor.change_in s c.args.descriptor.now) (object.define_as c.args.at (text_in x))) (λ x. Object x) (Words c.in_ok-name.name) c.args.state.now c.to_text.new.self c.define_by.new.state c.define_by.result c.in_ok-name.ensures c.define_by.ensures
