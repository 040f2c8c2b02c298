use Rattle.std.proofs.Common.{ℕ, ◌++◌, List, [], Some}
use Rattle.page_meaning.specs.Loops.{listed_up}
use Rattle.page_state.specs.Listing.{AlsoSeen}
use Rattle.page_state.proofs.Visits.{Walk, above}
use Rattle.page_state.proofs.state.State.push_up.Given as goal

abbrev pub invariant-loop-next : goal.invariant-loop-next
invariant-loop-next l =
    (before : List (List ℕ)) → AlsoSeen [] before l.fn.seen.keys → Walk l.self (l.initial.names.items ++ listed_up l.self before (Some l.fn.from)) l.seen.keys l.names.items l.next

abbrev pub decreases-loop-next : goal.decreases-loop-next
decreases-loop-next l = above l.next
