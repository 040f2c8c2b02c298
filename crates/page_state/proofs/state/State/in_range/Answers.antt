use Rattle.page_state.proofs.state.State.in_range.Goals as goal

pub returns-in-Err-Outside : goal.returns-in-Err-Outside
returns-in-Err-Outside c = rw c.in-Err-Outside.is c.raise.ensures
