use Rattle.outcomes.proofs.Pieces.{front_before, second_fault}
use Rattle.outcomes.proofs.notes.put_two.Goals as goal

pub returns-in-Ok-clause-fault : goal.returns-in-Ok-clause-fault
returns-in-Ok-clause-fault g c = second_fault _ _ _ _ _ _ c.in-Ok.ensures.ok c.put-in-Ok.ensures.fault

pub returns-in-Err-clause-fault : goal.returns-in-Err-clause-fault
returns-in-Err-clause-fault g c = front_before _ _ _ _ c.in-Err.ensures.fault
