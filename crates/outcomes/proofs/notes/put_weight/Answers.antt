use Rattle.outcomes.proofs.Pieces.{note_front, note_second_fault, note_second_ok, weight_pieces}
use Rattle.outcomes.proofs.notes.put_weight.Goals as goal

pub returns-in-Ok-clause-ok : goal.returns-in-Ok-clause-ok
returns-in-Ok-clause-ok g c =
    note_second_ok _ _ _ _ _ _ _ (weight_pieces c.args.weight) c.in-Ok.ensures.ok
    (rw (c.as_bytes-text.ensures.value, c.format.ensures.text) at c.put_two.ensures.ok)

pub returns-in-Ok-clause-fault : goal.returns-in-Ok-clause-fault
returns-in-Ok-clause-fault g c =
    note_second_fault _ _ _ _ _ _ _ (weight_pieces c.args.weight) c.in-Ok.ensures.ok
    (rw (c.as_bytes-text.ensures.value, c.format.ensures.text) at c.put_two.ensures.fault)

pub returns-in-Err-clause-fault : goal.returns-in-Err-clause-fault
returns-in-Err-clause-fault g c = note_front _ _ _ _ _ (weight_pieces c.args.weight) c.in-Err.ensures.fault
