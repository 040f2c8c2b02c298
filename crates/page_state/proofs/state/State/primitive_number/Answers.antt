use Rattle.page_state.proofs.state.State.primitive_number.Goals as goal

pub returns-in-Err : goal.returns-in-Err
returns-in-Err c = rw (← c.in-Err.ensures) c.raise.ensures
