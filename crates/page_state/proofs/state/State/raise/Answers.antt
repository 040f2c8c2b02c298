use Rattle.page_state.proofs.Does.{raised}
use Rattle.page_state.proofs.state.State.raise.Goals as goal

pub returns-in-Ok : goal.returns-in-Ok
returns-in-Ok c = raised c.args.what c.in-Ok.at c.args.self.now c.make_error.new.self (rw c.in-Ok.is at c.make_error.ensures)
