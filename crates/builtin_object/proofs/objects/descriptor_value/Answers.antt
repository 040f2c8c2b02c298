use Rattle.std.specs.Prelude.{refl}
use Rattle.js_values.specs.declared.value.Value.TheVariants.{Object}
use Rattle.page_meaning.specs.Descriptors as descriptor
use Rattle.page_meaning.specs.Functions.{object_of}
use Rattle.page_meaning.specs.Primitives.{make}
use Rattle.page_state.proofs.Callers.{bind_does, given}
use Rattle.builtin_object.proofs.objects.descriptor_value.Goals as goal

pub returns : goal.returns
returns c = bind_does (λ _. make (descriptor.descriptor_object c.args.prop.now) (descriptor.descriptor_fit c.args.prop.now) refl) (λ _. object_of) c.in_ok-new_descriptor.field-0 _ c.args.state.now c.new_descriptor.new.state c.new_descriptor.new.state c.in_ok-new_descriptor.ensures (given (Object c.in_ok-new_descriptor.field-0) c.new_descriptor.new.state)
