use Rattle.std.proofs.Common.{◌≡◌, ◌++◌, length}
use Rattle.rebuild_plan.specs.Plan.{starts}
use Rattle.rebuild_plan.specs.Timers.{moved_timers}
use Rattle.rebuild_plan.proofs.timers.push_starts.Given as goal

abbrev pub invariant-loop-rest : goal.invariant-loop-rest
invariant-loop-rest l = l.plan.items ++ starts (moved_timers l.walked.things.keys l.clock l.rest) ≡ l.fn.plan.items ++ starts (moved_timers l.walked.things.keys l.clock l.timers)

abbrev pub decreases-loop-rest : goal.decreases-loop-rest
decreases-loop-rest l = length l.rest
