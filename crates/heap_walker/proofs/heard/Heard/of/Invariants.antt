use Rattle.std.proofs.Common.{◌≡◌, ◌++◌, ℕ, length}
use Rattle.heap_walker.specs.Heard.{group_at}
use Rattle.heap_walker.specs.Things.{heard_at}
use Rattle.heap_walker.proofs.heard.Heard.of.Given as goal

abbrev pub invariant-loop-rest : goal.invariant-loop-rest
invariant-loop-rest l = (k : ℕ) → group_at l.heard k ++ heard_at k l.rest ≡ heard_at k l.listeners

abbrev pub decreases-loop-rest : goal.decreases-loop-rest
decreases-loop-rest l = length l.rest
