use Rattle.js_values.specs.declared.value.Value.TheVariants.{Undefined}
use Rattle.page_meaning.specs.Act.{done}
use Rattle.page_meaning.specs.Primitives.{define_at}
use Rattle.page_state.proofs.Callers.{passed, refused}
use Rattle.builtin_object.proofs.definitions.define_or_throw.Goals as goal

pub returns-in-None : goal.returns-in-None
returns-in-None c = passed (define_at c.args.at c.args.name.now c.args.change.now) Undefined c.args.state.now c.define_at.new.self (rw c.in-None.is at c.in_ok-define_at.ensures)

pub returns-in-Some : goal.returns-in-Some
returns-in-Some c = refused (define_at c.args.at c.args.name.now c.args.change.now) done c.in-Some.what c.args.state.now c.define_at.new.self c.raise.new.self c.raise.result (rw c.in-Some.is at c.in_ok-define_at.ensures) c.raise.ensures
