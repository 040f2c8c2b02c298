use Rattle.std.proofs.Common.{◌≡◌, filter, take}
use Rattle.page_host.specs.Listeners.{takes}
use Rattle.page_host.proofs.listening.taken.Given as goal

abbrev pub invariant-loop-listener : goal.invariant-loop-listener
invariant-loop-listener l = l.all.items ≡ filter (takes l.kind l.place) (take l.listener-index l.listeners)
