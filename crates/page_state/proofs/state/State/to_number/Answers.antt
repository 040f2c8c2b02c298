use Rattle.page_state.proofs.Values.{number_raises}
use Rattle.page_state.proofs.state.State.to_number.Goals as goal

pub returns-in-Err : goal.returns-in-Err
returns-in-Err c = number_raises c.args.value.now c.in-Err.what c.args.self.now c.raise.new.self c.raise.result c.in-Err.ensures c.raise.ensures
