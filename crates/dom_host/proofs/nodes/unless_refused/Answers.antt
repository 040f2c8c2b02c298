use Rattle.std.proofs.Common.{refl}
use Rattle.dom_host.proofs.nodes.unless_refused.Goals as goal

pub returns-in-Ok : goal.returns-in-Ok
returns-in-Ok c = rw c.in-Ok.is (record { is = λ calls n. refl })

pub returns-in-Err : goal.returns-in-Err
returns-in-Err c = rw (c.in-Err.is, ← c.thrown.ensures) c.raise.ensures
