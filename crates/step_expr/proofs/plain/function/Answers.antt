use Rattle.step_expr.proofs.plain.function.Goals as goal

pub returns : goal.returns
returns c = rw (c.in_ok-clone.ensures, c.env.ensures) at c.in_ok-made.ensures
