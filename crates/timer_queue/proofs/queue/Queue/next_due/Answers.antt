use Rattle.std.proofs.Common.{◌≡◌, Some, None, sym, ◌∙◌}
use Rattle.timer_queue.proofs.Earliest.{first_in_order}
use Rattle.timer_queue.specs.Timers.{first, in_order}
use Rattle.timer_queue.proofs.queue.Queue.next_due.Goals as goal

pub returns-in-Some : goal.returns-in-Some
returns-in-Some c =
    let at : first (in_order c.args.self.now) ≡ Some c.in-Some.timer = rw (← c.self.view_is, ← c.as_slice.ensures.value) (first_in_order c.as_slice.result.now ∙ sym c.earliest.ensures ∙ c.in-Some.is) in
    rw at

pub returns-in-None : goal.returns-in-None
returns-in-None c =
    let at : first (in_order c.args.self.now) ≡ None = rw (← c.self.view_is, ← c.as_slice.ensures.value) (first_in_order c.as_slice.result.now ∙ sym c.earliest.ensures ∙ c.in-None.is) in
    rw at
