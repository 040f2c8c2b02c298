use Rattle.page_state.proofs.state.State.set_length.Goals as goal

pub returns : goal.returns
returns c = rw (c.in_ok-name.ensures, c.in_ok-index_value.ensures) at c.put_in.ensures
