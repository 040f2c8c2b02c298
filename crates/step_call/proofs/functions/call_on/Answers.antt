use Rattle.step_call.proofs.functions.call_on.Goals as goal

pub returns : goal.returns
returns c w = rw (c.in_ok-clone.ensures) at (c.run_call.ensures w)
