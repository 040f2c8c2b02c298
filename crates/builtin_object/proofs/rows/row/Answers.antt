use Rattle.builtin_object.proofs.rows.row.Goals as goal

pub returns : goal.returns
returns c = c.row_on.ensures
