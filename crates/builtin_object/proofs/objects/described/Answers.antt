use Rattle.js_values.specs.declared.value.Value.TheVariants.{Undefined}
use Rattle.object_heap.specs.Property.{own_property}
use Rattle.page_meaning.specs.ObjectRows as object
use Rattle.page_state.specs.Does.{itself}
use Rattle.page_state.proofs.Callers.{asked_does, asked_gives, given}
use Rattle.builtin_object.proofs.objects.described.Goals as goal

pub returns-in-None : goal.returns-in-None
returns-in-None c = asked_does (λ s. own_property (object.props_at s c.args.at) c.args.name.now) (λ _. object.described) _ c.args.state.now c.args.state.now (rw (← c.own.ensures, c.in-None.is) (given Undefined c.args.state.now))

pub returns-in_ok-prop-in-Some : goal.returns-in_ok-prop-in-Some
returns-in_ok-prop-in-Some c = asked_gives (λ s. own_property (object.props_at s c.args.at) c.args.name.now) (λ _. object.described) itself c.args.state.now c.descriptor_value.new.state c.descriptor_value.result (rw (← c.own.ensures, c.in-Some.is, ← c.in_ok-prop-in-Some.ensures) c.descriptor_value.ensures)
