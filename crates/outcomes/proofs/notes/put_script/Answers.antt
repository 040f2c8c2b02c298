use Rattle.outcomes.proofs.Pieces.{note_second_ok, note_second_fault, note_front, script_pieces}
use Rattle.outcomes.proofs.notes.put_script.Goals as goal

pub returns-in-Ok-clause-ok : goal.returns-in-Ok-clause-ok
returns-in-Ok-clause-ok g c =
    note_second_ok _ _ _ _ _ _ _ (script_pieces c.args.script c.args.cause.now) c.in-Ok.ensures.ok c.put_two.ensures.ok

pub returns-in-Ok-clause-fault : goal.returns-in-Ok-clause-fault
returns-in-Ok-clause-fault g c =
    note_second_fault _ _ _ _ _ _ _ (script_pieces c.args.script c.args.cause.now) c.in-Ok.ensures.ok c.put_two.ensures.fault

pub returns-in-Err-clause-fault : goal.returns-in-Err-clause-fault
returns-in-Err-clause-fault g c = note_front _ _ _ _ _ (script_pieces c.args.script c.args.cause.now) c.in-Err.ensures.fault
