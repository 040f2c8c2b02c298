use Rattle.step_parts.proofs.parts.run_statement.Goals as goal

pub returns-in-None : goal.returns-in-None
returns-in-None c = rw c.part-number.ensures at (c.await_statement.ensures c.args.state.now c.args.meter.now)
