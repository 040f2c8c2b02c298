use Rattle.std.proofs.Common.{sym, ◌∙◌}
use Rattle.timer_queue.proofs.Earliest as lemma
use Rattle.timer_queue.proofs.queue.first_due.Goals as goal

pub returns-then-timer-moment : goal.returns-then-timer-moment
returns-then-timer-moment c = sym (lemma.first_due c.args.timers.now c.args.moment c.in-Some.timer (sym c.earliest.ensures ∙ c.in-Some.is) c.if-timer-moment.true)

pub returns-else-timer-moment : goal.returns-else-timer-moment
returns-else-timer-moment c = sym (lemma.none_is_due c.args.timers.now c.args.moment c.in-Some.timer (sym c.earliest.ensures ∙ c.in-Some.is) c.if-timer-moment.false)

pub returns-in-None : goal.returns-in-None
returns-in-None c = sym (lemma.none_is_live c.args.timers.now c.args.moment (sym c.earliest.ensures ∙ c.in-None.is))
