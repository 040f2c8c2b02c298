use Rattle.page_state.proofs.state.State.delete_of_text.Goals as goal

pub returns-then-branch : goal.returns-then-branch
returns-then-branch c = rw (← c.in_ok-is_own_of_text.ensures, c.if-branch.true) c.raise.ensures
