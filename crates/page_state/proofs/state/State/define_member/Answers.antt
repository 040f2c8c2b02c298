use Rattle.page_meaning.specs.Act.{give}
use Rattle.page_meaning.specs.Primitives.{define_at}
use Rattle.object_heap.specs.Define.{whole_property}
use Rattle.page_state.proofs.Does.{passed, refused}
use Rattle.page_state.proofs.state.State.define_member.Goals as goal

pub returns-in-None : goal.returns-in-None
returns-in-None c = passed (define_at c.args.at c.args.name.now (whole_property c.args.value)) c.args.value c.args.self.now c.define_at.new.self (rw (c.in-None.is, c.whole_property-change.ensures, c.in_ok-clone.ensures) at c.in_ok-define_at.ensures)

pub returns-in-Some : goal.returns-in-Some
returns-in-Some c = refused (define_at c.args.at c.args.name.now (whole_property c.args.value)) (give c.args.value) c.in-Some.what c.args.self.now c.define_at.new.self c.raise.new.self c.raise.result (rw (c.in-Some.is, c.whole_property-change.ensures, c.in_ok-clone.ensures) at c.in_ok-define_at.ensures) c.raise.ensures
