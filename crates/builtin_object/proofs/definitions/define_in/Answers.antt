use Rattle.page_meaning.specs.Act.{choose}
use Rattle.page_meaning.specs.Descriptors as descriptor
use Rattle.page_meaning.specs.Properties.{is_length_of}
use Rattle.page_state.specs.Does.{no_value}
use Rattle.page_state.proofs.Callers.{asked_gives}
use Rattle.builtin_object.proofs.definitions.define_in.Goals as goal

pub returns-then-is_length_of : goal.returns-then-is_length_of
returns-then-is_length_of c = asked_gives (λ s. is_length_of s c.args.at c.args.name.now) (λ _ b. choose b (descriptor.define_length c.args.at c.args.change.now c.args.change.now.value) (descriptor.define_or_throw c.args.at c.args.name.now c.args.change.now)) no_value c.args.state.now c.define_length.new.state c.define_length.result (rw (← c.if-is_length_of.ensures) c.define_length.ensures)

pub returns-else-is_length_of : goal.returns-else-is_length_of
returns-else-is_length_of c = asked_gives (λ s. is_length_of s c.args.at c.args.name.now) (λ _ b. choose b (descriptor.define_length c.args.at c.args.change.now c.args.change.now.value) (descriptor.define_or_throw c.args.at c.args.name.now c.args.change.now)) no_value c.args.state.now c.define_or_throw.new.state c.define_or_throw.result (rw (← c.if-is_length_of.ensures) c.define_or_throw.ensures)
