use Rattle.js_values.specs.declared.value.Value.TheVariants.{Object}
use Rattle.page_meaning.specs.Act.{give}
use Rattle.page_meaning.specs.Primitives.{prevent_at}
use Rattle.page_state.proofs.Callers.{passed, refused}
use Rattle.builtin_object.proofs.objects.prevent.Goals as goal

pub returns-in-None : goal.returns-in-None
returns-in-None c = passed (prevent_at c.args.at) (Object c.args.at) c.args.state.now c.prevent_at.new.self (rw c.in-None.is at c.in_ok-prevent_at.ensures)

pub returns-in-Some : goal.returns-in-Some
returns-in-Some c = refused (prevent_at c.args.at) (give (Object c.args.at)) c.in-Some.what c.args.state.now c.prevent_at.new.self c.raise.new.self c.raise.result (rw c.in-Some.is at c.in_ok-prevent_at.ensures) c.raise.ensures
