use Rattle.page_state.proofs.state.State.equal.Goals as goal

pub returns-in-Err-Outside : goal.returns-in-Err-Outside
returns-in-Err-Outside c = rw (← c.in-Err-Outside.ensures.value, c.in-Err-Outside.field-0-is) c.raise.ensures
