use Rattle.early_rules.specs.EarlyRules.{rule_number}
use Rattle.outcomes.proofs.Pieces.{note_second_ok, note_second_fault, note_front, early_pieces}
use Rattle.outcomes.proofs.notes.put_early.Goals as goal

pub returns-in-Ok-clause-ok : goal.returns-in-Ok-clause-ok
returns-in-Ok-clause-ok g c =
    note_second_ok _ _ _ _ _ _ _ (early_pieces c.args.script (rule_number c.args.rule)) c.in-Ok.ensures.ok
    (rw (c.as_bytes-number.ensures.value, c.format.ensures.text, c.number.ensures) at c.put_three.ensures.ok)

pub returns-in-Ok-clause-fault : goal.returns-in-Ok-clause-fault
returns-in-Ok-clause-fault g c =
    note_second_fault _ _ _ _ _ _ _ (early_pieces c.args.script (rule_number c.args.rule)) c.in-Ok.ensures.ok
    (rw (c.as_bytes-number.ensures.value, c.format.ensures.text, c.number.ensures) at c.put_three.ensures.fault)

pub returns-in-Err-clause-fault : goal.returns-in-Err-clause-fault
returns-in-Err-clause-fault g c = note_front _ _ _ _ _ (early_pieces c.args.script (rule_number c.args.rule)) c.in-Err.ensures.fault
