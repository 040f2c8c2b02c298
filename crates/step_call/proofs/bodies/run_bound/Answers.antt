use Rattle.step_call.proofs.bodies.run_bound.Goals as goal

pub returns : goal.returns
returns c w = rw c.in_ok-args.ensures at (c.run_call.ensures w)
