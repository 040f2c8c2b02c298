use Rattle.page_meaning.specs.VisitRows.{told}
use Rattle.step_visit.proofs.visits.go_on.Goals as goal

pub returns : goal.returns
returns c = c.go_told.ensures (told c.args.frame.visit c.args.frame.element c.args.frame.index c.args.given) c.args.state.now c.tell-told.ensures
