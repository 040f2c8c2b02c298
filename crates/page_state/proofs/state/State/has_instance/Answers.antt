use Rattle.page_state.proofs.state.State.has_instance.Goals as goal

pub returns-in-Object : goal.returns-in-Object
returns-in-Object c = rw c.in-Object.is c.has_object.ensures
