use Rattle.page_meaning.specs.Act.{give}
use Rattle.page_meaning.specs.Primitives.{define_at}
use Rattle.page_state.proofs.Callers.{passed, refused}
use Rattle.object_heap.specs.Define.{whole_property}
use Rattle.new_lists.proofs.lists.define_whole.Goals as goal

pub returns-in-None : goal.returns-in-None
returns-in-None c = passed (define_at c.args.at c.args.name.now (whole_property c.args.value)) c.args.value c.args.state.now c.define_at.new.self (rw c.in-None.is at c.in_ok-define_at.ensures)

pub returns : goal.returns
returns c = refused (define_at c.args.at c.args.name.now (whole_property c.args.value)) (give c.args.value) c.in-Some.what c.args.state.now c.define_at.new.self c.raise.new.self c.raise.result (rw c.in-Some.is at c.in_ok-define_at.ensures) c.raise.ensures
