use Rattle.std.proofs.Common.{sym}
use Rattle.page_state.proofs.EventSteps.{none_begins}
use Rattle.page_state.proofs.state.State.begin_dispatch.Goals as goal

pub returns-then-not-may_begin : goal.returns-then-not-may_begin
returns-then-not-may_begin c = none_begins c.args.self.now c.args.at _ (sym c.if-not-may_begin.ensures)
