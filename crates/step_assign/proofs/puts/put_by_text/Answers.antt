use Rattle.step_assign.proofs.puts.put_by_text.Goals as goal

pub returns-in-Text : goal.returns-in-Text
returns-in-Text c = rw c.in-Text.is c.put_right.ensures
