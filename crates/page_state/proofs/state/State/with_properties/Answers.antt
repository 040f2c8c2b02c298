use Rattle.page_state.proofs.Values.{no_properties}
use Rattle.page_state.proofs.state.State.with_properties.Goals as goal

pub returns-in-Undefined : goal.returns-in-Undefined
returns-in-Undefined c = rw (no_properties c.args.value.now c.in-Undefined.is) c.raise.ensures
