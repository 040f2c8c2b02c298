use Rattle.std.proofs.Common.{length, All}
use Rattle.page_writer.specs.Literals.{HasLiterals}
use Rattle.page_writer.proofs.literals.tell_plan.Given as goal

abbrev pub invariant-loop-rest : goal.invariant-loop-rest
invariant-loop-rest l = All HasLiterals l.rest → All HasLiterals l.plan

abbrev pub decreases-loop-rest : goal.decreases-loop-rest
decreases-loop-rest l = length l.rest
