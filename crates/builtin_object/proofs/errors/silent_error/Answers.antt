use Rattle.std.specs.Prelude.{refl}
use Rattle.js_values.specs.declared.value.Value.TheVariants.{Object}
use Rattle.page_meaning.specs.Functions.{object_of}
use Rattle.page_meaning.specs.Primitives.{make}
use Rattle.page_meaning.specs.ValueRows as value
use Rattle.page_state.proofs.Callers.{bind_does, given}
use Rattle.builtin_object.proofs.errors.silent_error.Goals as goal

pub returns : goal.returns
returns c = bind_does (λ _. make (value.silent_error c.args.kind) (value.silent_fit c.args.kind) refl) (λ _. object_of) c.in_ok-make_silent.field-0 _ c.args.state.now c.make_silent.new.state c.make_silent.new.state c.in_ok-make_silent.ensures (given (Object c.in_ok-make_silent.field-0) c.make_silent.new.state)
