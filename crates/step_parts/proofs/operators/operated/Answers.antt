use Rattle.step_parts.proofs.operators.operated.Goals as goal

pub returns-in-Num-Num : goal.returns-in-Num-Num
returns-in-Num-Num c = rw c.in-Num-Num.is-0 (rw c.in-Num-Num.is-1 c.on_numbers.ensures)
