use Rattle.page_meaning.specs.Act.{give}
use Rattle.page_meaning.specs.Primitives.{put_at}
use Rattle.page_state.proofs.Does.{passed, refused}
use Rattle.page_state.proofs.state.State.stored.Goals as goal

pub returns-in-None : goal.returns-in-None
returns-in-None c = rw c.in_ok-given.ensures (passed (put_at c.args.at c.args.name.now c.args.value) c.args.value c.args.self.now c.put_at.new.self (rw c.in-None.is at c.in_ok-put_at.ensures))

pub returns-in-Some : goal.returns-in-Some
returns-in-Some c = refused (put_at c.args.at c.args.name.now c.args.value) (give c.args.value) c.in-Some.what c.args.self.now c.put_at.new.self c.raise.new.self c.raise.result (rw c.in-Some.is at c.in_ok-put_at.ensures) c.raise.ensures
