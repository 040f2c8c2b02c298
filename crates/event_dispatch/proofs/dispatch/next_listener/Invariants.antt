use Rattle.std.proofs.Common.{◌≡◌, length}
use Rattle.event_dispatch.specs.Turning.{registered_from}
use Rattle.event_dispatch.proofs.dispatch.next_listener.Given as goal

-- those that were passed over are gone
abbrev pub invariant-loop-listener : goal.invariant-loop-listener
invariant-loop-listener l = registered_from l.state l.initial.round ≡ registered_from l.state l.round

abbrev pub decreases-loop-listener : goal.decreases-loop-listener
decreases-loop-listener l = length l.round
