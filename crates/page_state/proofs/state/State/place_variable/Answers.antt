use Rattle.page_state.proofs.TopNames.{variable_placed}
use Rattle.page_state.proofs.state.State.place_variable.Goals as goal

pub returns-in-None : goal.returns-in-None
returns-in-None c = variable_placed c.args.name.now c.args.self.now c.define_global.new.self c.define_global.result c.in-None.ensures c.define_global.ensures
