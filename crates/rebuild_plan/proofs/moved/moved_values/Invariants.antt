use Rattle.std.proofs.Common.{◌≡◌, ◌++◌, length}
use Rattle.rebuild_plan.specs.Compact.{moved_values}
use Rattle.rebuild_plan.proofs.moved.moved_values.Given as goal

abbrev pub invariant-loop-rest : goal.invariant-loop-rest
invariant-loop-rest l = l.all ++ moved_values l.walked.things.keys l.rest ≡ moved_values l.walked.things.keys l.values

abbrev pub decreases-loop-rest : goal.decreases-loop-rest
decreases-loop-rest l = length l.rest
