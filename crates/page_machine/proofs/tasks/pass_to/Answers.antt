use Rattle.std.proofs.Common.{sym, ◌∙◌}
use Rattle.page_meaning.specs.Calls.{calls_at}
use Rattle.page_meaning.specs.TimerRows.{pass_to}
use Rattle.page_machine.proofs.Passing.{ends}
use Rattle.page_machine.proofs.tasks.pass_to.Goals as goal

pub returns : goal.returns
returns c =
    ends c.args.moment c.firings.state c.set_clock.new.self c.firings.meter c.args.meter.now.depth ((pass_to (calls_at c.args.meter.now.depth) c.args.moment).run c.args.state.now c.args.meter.now.steps)
    c.firings.invariant (sym c.firings-test.false ∙ c.is_timer_due.ensures) c.set_clock.ensures
