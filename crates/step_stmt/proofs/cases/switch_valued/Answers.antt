use Rattle.step_stmt.proofs.Switching.{switch_begins}
use Rattle.step_stmt.proofs.cases.switch_valued.Goals as goal

pub returns : goal.returns
returns c = switch_begins c.args.spot c.args.value c.args.state.now c.args.meter.now c.tests_from.result c.requires c.tests_from.ensures
