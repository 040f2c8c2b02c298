use Rattle.page_state.proofs.state.State.type_of_reference.Goals as goal

pub returns-in-Environment : goal.returns-in-Environment
returns-in-Environment c = rw c.in-Environment.is (rw c.in-Environment.is at c.type_of_read.ensures)

pub returns-in-Global : goal.returns-in-Global
returns-in-Global c = rw c.in-Global.is (rw c.in-Global.is at c.type_of_read-in-Global.ensures)
