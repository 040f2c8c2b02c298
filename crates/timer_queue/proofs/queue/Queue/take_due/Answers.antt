use Rattle.std.proofs.Common.{◌≡◌, Some, subst, sym, ◌∙◌}
use Rattle.timer_queue.specs.Marks.{AreMarks}
use Rattle.timer_queue.proofs.Range.{can_take}
use Rattle.timer_queue.specs.Timers.{cleared, due_timers, first}
use Rattle.timer_queue.proofs.queue.Queue.take_due.Goals as goal

pub take-requires : goal.take-requires
take-requires c =
    let at : first (due_timers c.self.inside.timers.items c.args.until) ≡ Some c.in-Some.timer = rw (← c.as_slice.ensures.value) (sym c.first_due.ensures ∙ c.in-Some.is) in
    let can = can_take c.self.inside.timers.items c.self.inside.marks.items c.self.inside.full c.args.until c.in-Some.timer c.self.invariant c.requires at in
    record { live = can.live; due = can.due; period = can.period }

pub invariant_of-self : goal.invariant_of-self
invariant_of-self c =
    let at : first (due_timers c.self.inside.timers.items c.args.until) ≡ Some c.in-Some.timer = rw (← c.as_slice.ensures.value) (sym c.first_due.ensures ∙ c.in-Some.is) in
    let can = can_take c.self.inside.timers.items c.self.inside.marks.items c.self.inside.full c.args.until c.in-Some.timer c.self.invariant c.requires at in
    rw c.take.ensures (can.again c.in-Some-period.field-0 c.in-Some-period.is)

pub invariant_of-self-in-None-period : goal.invariant_of-self-in-None-period
invariant_of-self-in-None-period c =
    let at : first (due_timers c.self.inside.timers.items c.args.until) ≡ Some c.in-Some.timer = rw (← c.as_slice.ensures.value) (sym c.first_due.ensures ∙ c.in-Some.is) in
    let can = can_take c.self.inside.timers.items c.self.inside.marks.items c.self.inside.full c.args.until c.in-Some.timer c.self.invariant c.requires at in
    let left : AreMarks (cleared c.self.inside.timers.items c.in-Some.timer.id) c.unmark-self-inside.new.marks.items c.unmark-self-inside.result =
    subst (λ i. AreMarks (cleared c.self.inside.timers.items i) c.unmark-self-inside.new.marks.items c.unmark-self-inside.result) c.from.ensures (c.unmark-self-inside.ensures c.self.inside.timers.items c.self.invariant.marked)
    in
    rw c.take.ensures (can.once c.unmark-self-inside.new.marks.items c.unmark-self-inside.result c.in-None-period.is left)
