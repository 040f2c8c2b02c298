use Rattle.page_meaning.specs.Calls.{calls_at}
use Rattle.page_meaning.specs.TimerRows.{pass_to}
use Rattle.page_machine.proofs.Passing.{Passes}
use Rattle.page_machine.proofs.tasks.pass_to.Given as goal

-- what is left to do has the outcome of all
abbrev pub invariant-firings : goal.invariant-firings
invariant-firings l =
    Passes l.moment l.state l.meter l.fn.meter.depth ((pass_to (calls_at l.fn.meter.depth) l.moment).run l.fn.state l.fn.meter.steps)

abbrev pub decreases-firings : goal.decreases-firings
decreases-firings l = l.meter.steps
