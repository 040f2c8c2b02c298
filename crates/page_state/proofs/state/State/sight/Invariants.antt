use Rattle.page_state.proofs.Sights.{Climb}
use Rattle.page_state.proofs.state.State.sight.Given as goal

abbrev pub invariant-loop-name : goal.invariant-loop-name
invariant-loop-name l = Climb l.self l.text l.name l.fn.at l.at

abbrev pub decreases-loop-name : goal.decreases-loop-name
decreases-loop-name l = l.at.0
