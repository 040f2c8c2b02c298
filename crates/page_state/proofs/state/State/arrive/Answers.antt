use Rattle.std.proofs.Common.{sym}
use Rattle.page_meaning.specs.Dispatch.{object_of_place}
use Rattle.page_meaning.specs.Events.{arrives}
use Rattle.page_state.proofs.EventSteps.{no_event}
use Rattle.page_state.proofs.state.State.arrive.Goals as goal

pub returns-in_default : goal.returns-in_default
returns-in_default c = no_event c.args.self.now c.args.at (arrives (object_of_place c.args.place.node c.args.self.now) c.args.place.phase) (sym c.in_default.ensures)
