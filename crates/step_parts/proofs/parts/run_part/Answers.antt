use Rattle.step_parts.proofs.parts.run_part.Goals as goal

pub returns-in-None : goal.returns-in-None
returns-in-None c = c.await_part.ensures c.args.k c.args.state.now c.args.meter.now c.part-number.ensures
