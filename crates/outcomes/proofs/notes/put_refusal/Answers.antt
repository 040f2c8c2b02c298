use Rattle.outcomes.proofs.notes.put_refusal.Goals as goal

pub returns-in-NotForm-clause-fault : goal.returns-in-NotForm-clause-fault
returns-in-NotForm-clause-fault g c = rw c.in-NotForm.is c.put_script-in-NotForm.ensures.fault
