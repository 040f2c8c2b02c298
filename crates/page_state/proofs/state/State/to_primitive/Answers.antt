use Rattle.page_state.proofs.state.State.to_primitive.Goals as goal

pub returns-in-Object : goal.returns-in-Object
returns-in-Object c = λ need. rw c.in-Object.is c.raise.ensures
