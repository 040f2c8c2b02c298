use Rattle.std.specs.Prelude.{refl}
use Rattle.js_values.specs.declared.value.Value.TheVariants.{Object}
use Rattle.object_heap.specs.Heap.{new_object}
use Rattle.object_heap.proofs.Callers.{new_fit}
use Rattle.object_heap.specs.declared.object.Class.TheVariants.{Plain}
use Rattle.page_meaning.specs.ObjectRows as object
use Rattle.page_meaning.specs.Primitives.{make}
use Rattle.page_state.proofs.Callers.{bind_gives}
use Rattle.builtin_object.proofs.objects.new_with.Goals as goal

pub returns : goal.returns
returns c = bind_gives (λ _. make (new_object Plain c.args.proto) (new_fit Plain c.args.proto) refl) (λ _. object.with_given c.args.descriptors.now) (λ x. Object x) c.in_ok-at.at c.args.state.now c.new_object.new.self c.with_given.new.state c.with_given.result c.in_ok-at.ensures c.with_given.ensures
