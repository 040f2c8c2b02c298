use Rattle.step_stmt.proofs.Choosing.{last_runs}
use Rattle.step_stmt.proofs.choices.run_last.Goals as goal

pub returns-then-has_part : goal.returns-then-has_part
returns-then-has_part c = last_runs c.args.spot c.args.name.now c.args.end c.args.state.now c.args.meter.now c.run_statement.result c.requires c.if-has_part.ensures c.run_statement.ensures
