use Rattle.step_call.proofs.functions.call_without.Goals as goal

pub returns : goal.returns
returns c w = rw (c.new.ensures) at (c.call_on.ensures w)
