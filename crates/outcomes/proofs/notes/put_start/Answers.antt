use Rattle.outcomes.proofs.notes.put_start.Goals as goal

pub returns-clause-ok : goal.returns-clause-ok
returns-clause-ok g c = rw (c.as_bytes-number.ensures.value, c.format.ensures.text) at c.put_three.ensures.ok

pub returns-clause-fault : goal.returns-clause-fault
returns-clause-fault g c = rw (c.as_bytes-number.ensures.value, c.format.ensures.text) at c.put_three.ensures.fault
