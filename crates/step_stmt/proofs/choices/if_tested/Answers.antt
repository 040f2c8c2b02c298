use Rattle.std.proofs.Common.{ap}
use Rattle.step_stmt.proofs.Choosing.{chosen, chosen_part}
use Rattle.step_stmt.proofs.choices.if_tested.Goals as goal

pub returns-then-is_true : goal.returns-then-is_true
returns-then-is_true c = chosen c.args.spot.now 1 c.args.value.now c.args.state.now c.args.meter.now c.enter_part.result (ap chosen_part c.if-is_true.ensures) c.enter_part.ensures

pub returns-else-is_true : goal.returns-else-is_true
returns-else-is_true c = chosen c.args.spot.now 2 c.args.value.now c.args.state.now c.args.meter.now c.enter_part-else-is_true.result (ap chosen_part c.if-is_true.ensures) c.enter_part-else-is_true.ensures
