use Rattle.std.proofs.Common.{length, All}
use Rattle.page_writer.specs.Literals.{IsLiteral}
use Rattle.page_writer.proofs.literals.tell_values.Given as goal

abbrev pub invariant-loop-rest : goal.invariant-loop-rest
invariant-loop-rest l = All IsLiteral l.rest → All IsLiteral l.values

abbrev pub decreases-loop-rest : goal.decreases-loop-rest
decreases-loop-rest l = length l.rest
