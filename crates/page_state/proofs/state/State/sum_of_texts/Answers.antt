use Rattle.page_state.proofs.state.State.sum_of_texts.Goals as goal

pub returns : goal.returns
returns c = rw (← c.in_ok-answer.ensures) c.settle.ensures
