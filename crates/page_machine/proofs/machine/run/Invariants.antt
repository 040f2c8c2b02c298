use Rattle.std.proofs.Common.{reverse}
use Rattle.page_meaning.specs.Calls.{calls_at}
use Rattle.page_frames.specs.Laws.{Afterwards}
use Rattle.page_frames.specs.Rest.{mean_of}
use Rattle.page_machine.proofs.Turning.{burden}
use Rattle.page_machine.proofs.machine.run.Given as goal

abbrev pub invariant-loop-next : goal.invariant-loop-next
invariant-loop-next l =
    Afterwards l.next (reverse l.stack.items) l.state l.meter ((mean_of (calls_at l.fn.meter.depth) l.fn.what).run l.fn.state l.fn.meter.steps)

abbrev pub decreases-loop-next : goal.decreases-loop-next
decreases-loop-next l = burden l.next l.meter (reverse l.stack.items)
