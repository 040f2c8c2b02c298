use Rattle.std.proofs.Common.{◌≡◌, ◌++◌, length}
use Rattle.rebuild_plan.specs.Compact.{moved_needs}
use Rattle.rebuild_plan.proofs.moved.moved_needs.Given as goal

abbrev pub invariant-loop-rest : goal.invariant-loop-rest
invariant-loop-rest l = l.all ++ moved_needs l.walked.things.keys l.rest ≡ moved_needs l.walked.things.keys l.needs

abbrev pub decreases-loop-rest : goal.decreases-loop-rest
decreases-loop-rest l = length l.rest
