use Rattle.std.proofs.Common.{◌≡◌, ◌++◌, drop}
use Rattle.rebuild_plan.specs.Compact.{things_at}
use Rattle.rebuild_plan.specs.Plan.{makes}
use Rattle.rebuild_plan.proofs.planning.push_makes.Given as goal

abbrev pub invariant-loop-number : goal.invariant-loop-number
invariant-loop-number l =
    l.plan.items ++ makes l.number (things_at l.state l.walked.things.keys (drop l.number l.walked.things.keys))
    ≡ l.fn.plan.items ++ makes 0 (things_at l.state l.walked.things.keys l.walked.things.keys)
