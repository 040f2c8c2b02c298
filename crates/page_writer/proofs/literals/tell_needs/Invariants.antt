use Rattle.std.proofs.Common.{length, All}
use Rattle.page_writer.specs.Literals.{IsLiteral, need_values}
use Rattle.page_writer.proofs.literals.tell_needs.Given as goal

abbrev pub invariant-loop-rest : goal.invariant-loop-rest
invariant-loop-rest l = All IsLiteral (need_values l.rest) → All IsLiteral (need_values l.needs)

abbrev pub decreases-loop-rest : goal.decreases-loop-rest
decreases-loop-rest l = length l.rest
