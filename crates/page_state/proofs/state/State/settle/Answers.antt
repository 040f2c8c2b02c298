use Rattle.page_state.proofs.state.State.settle.Goals as goal

pub returns-in-Err : goal.returns-in-Err
returns-in-Err c = rw c.in-Err.is c.raise.ensures
