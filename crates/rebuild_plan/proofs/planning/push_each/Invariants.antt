use Rattle.std.proofs.Common.{◌≡◌, ◌++◌, drop}
use Rattle.rebuild_plan.specs.Compact.{things_at}
use Rattle.rebuild_plan.specs.Plan.{each}
use Rattle.rebuild_plan.proofs.planning.push_each.Given as goal

abbrev pub invariant-loop-number : goal.invariant-loop-number
invariant-loop-number l =
    l.plan.items ++ each l.phase l.number (things_at l.state l.walked.things.keys (drop l.number l.walked.things.keys))
    ≡ l.fn.plan.items ++ each l.phase 0 (things_at l.state l.walked.things.keys l.walked.things.keys)
