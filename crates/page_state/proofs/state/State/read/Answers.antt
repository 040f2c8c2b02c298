use Rattle.page_state.proofs.state.State.read.Goals as goal

pub returns-in-Global : goal.returns-in-Global
returns-in-Global c = rw c.in-Global.is c.read_global.ensures

pub returns-in_ok-clone-in-Nowhere : goal.returns-in_ok-clone-in-Nowhere
returns-in_ok-clone-in-Nowhere c = rw (c.in-Nowhere.is, ← c.in_ok-clone-in-Nowhere.ensures) c.raise.ensures
