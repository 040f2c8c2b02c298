use Rattle.builtin_object.proofs.rows.as_object.Goals as goal

pub returns-in-Ok : goal.returns-in-Ok
returns-in-Ok c act s t g = rw c.in-Ok.is at g

pub returns-in-Err : goal.returns-in-Err
returns-in-Err c act s t g = rw c.in-Err.is at g
