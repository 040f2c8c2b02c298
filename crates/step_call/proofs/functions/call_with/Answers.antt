use Rattle.step_call.proofs.functions.call_with.Goals as goal

pub returns : goal.returns
returns c w =
    rw (c.in_ok-clone.ensures, c.in_ok-argument.ensures, c.in_ok-values_of.ensures, c.arguments_from.ensures) at (c.run_call.ensures w)
