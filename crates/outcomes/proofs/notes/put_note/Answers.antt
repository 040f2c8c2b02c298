use Rattle.outcomes.proofs.notes.put_note.Goals as goal

pub returns-in-Usage-clause-ok : goal.returns-in-Usage-clause-ok
returns-in-Usage-clause-ok g c = rw c.in-Usage.is c.put-in-Usage.ensures.ok

pub returns-in-Usage-clause-fault : goal.returns-in-Usage-clause-fault
returns-in-Usage-clause-fault g c = rw c.in-Usage.is c.put-in-Usage.ensures.fault

pub returns-in-EventsRefused-clause-ok : goal.returns-in-EventsRefused-clause-ok
returns-in-EventsRefused-clause-ok g c =
    rw c.in-EventsRefused.is (rw (c.as_bytes-number.ensures.value, c.format.ensures.text) at c.put_three.ensures.ok)

pub returns-in-EventsRefused-clause-fault : goal.returns-in-EventsRefused-clause-fault
returns-in-EventsRefused-clause-fault g c =
    rw c.in-EventsRefused.is (rw (c.as_bytes-number.ensures.value, c.format.ensures.text) at c.put_three.ensures.fault)

pub returns-in-KeeperFault-clause-fault : goal.returns-in-KeeperFault-clause-fault
returns-in-KeeperFault-clause-fault g c = rw c.in-KeeperFault.is c.put-in-KeeperFault.ensures.fault
