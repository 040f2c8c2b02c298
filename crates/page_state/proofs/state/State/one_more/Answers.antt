use Rattle.page_state.proofs.state.State.one_more.Goals as goal

pub returns-then-up : goal.returns-then-up
returns-then-up c = rw c.if-up.true (rw (c.add.ensures, c.one.ensures) at c.in_range.ensures)

pub returns-else-up : goal.returns-else-up
returns-else-up c = rw c.if-up.false (rw (c.sub.ensures, c.one-else-up.ensures) at c.in_range-else-up.ensures)
