use Rattle.std.proofs.Common.{length}
use Rattle.page_writer.proofs.Pieces.{Leads}
use Rattle.page_writer.specs.Page.{lines}
use Rattle.page_writer.proofs.writing.put_lines.Given as goal

abbrev pub invariant-loop-rest : goal.invariant-loop-rest
invariant-loop-rest g l = Leads (g.O.Sink.seen l.fn.out) (g.O.Sink.seen l.out) (lines l.rest) (lines l.plan)

abbrev pub decreases-loop-rest : goal.decreases-loop-rest
decreases-loop-rest g l = length l.rest
