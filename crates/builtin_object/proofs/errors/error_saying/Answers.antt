use Rattle.std.specs.Prelude.{refl}
use Rattle.js_values.specs.declared.value.Value.TheVariants.{Object}
use Rattle.page_meaning.specs.Functions.{object_of}
use Rattle.page_meaning.specs.Primitives.{make}
use Rattle.page_meaning.specs.ValueRows as value
use Rattle.page_state.proofs.Callers.{bind_does, given}
use Rattle.builtin_object.proofs.errors.error_saying.Goals as goal

pub returns : goal.returns
returns c = bind_does (λ _. make (value.error_saying c.args.kind c.args.message) (value.saying_fit c.args.kind c.args.message) refl) (λ _. object_of) c.in_ok-make_saying.field-0 _ c.args.state.now c.make_saying.new.state c.make_saying.new.state c.in_ok-make_saying.ensures (given (Object c.in_ok-make_saying.field-0) c.make_saying.new.state)
