use Rattle.std.proofs.Common.{◌≡◌, ◌++◌, drop}
use Rattle.object_heap.specs.Chain.{object_at}
use Rattle.page_meaning.specs.Loops.{listed_own}
use Rattle.page_state.proofs.state.State.push_own.Given as goal

abbrev pub invariant-loop-place : goal.invariant-loop-place
invariant-loop-place l =
    l.names.items ++ listed_own l.at l.seen.keys (drop l.place (object_at l.self.heap.objects l.at.0).props)
    ≡ l.initial.names.items ++ listed_own l.at l.seen.keys (object_at l.self.heap.objects l.at.0).props
