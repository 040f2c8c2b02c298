use Rattle.std.proofs.Common.{◌-◌, ◌<◌, ◌≤◌, inl, inr, arith, length, slice_set, subst, sym, false}
use Rattle.timer_queue.specs.Marks.{AreMarks}
use Rattle.timer_queue.specs.Timers.{cleared}
use Rattle.timer_queue.proofs.MarkLemmas.{unmarked, unmarked_past}
use Rattle.timer_queue.proofs.ids.unmark.Goals as goal
use Rattle.timer_queue.proofs.ids.unmark.Goals.{then-id-eq0-via-then-id-eq0, then-id-eq0-via-else-id-eq0+then-id-len}

pub returns-then-id-eq0 : goal.returns-then-id-eq0
returns-then-id-eq0 c ts are =
    elim c.then-id-eq0.branch [
      | then-id-eq0-via-then-id-eq0 w ↦ unmarked_past ts c.args.marks.now.items c.args.full c.args.id (inl (omega (arith, w.if-id-eq0.true))) are
      | then-id-eq0-via-else-id-eq0+then-id-len w ↦ unmarked_past ts c.args.marks.now.items c.args.full c.args.id (inr (omega (arith, w.if-id-len.true))) are
    ]

pub returns : goal.returns
returns c ts are =
    let above : 0 < c.args.id = omega (arith, c.if-id-eq0.false) in
    let within : c.args.id ≤ length c.args.marks.now.items = omega (arith, c.if-id-len.false) in
    subst (AreMarks (cleared ts c.args.id) (slice_set c.args.marks.now.items (c.args.id - 1) false)) (sym c.min.ensures) (unmarked ts c.args.marks.now.items c.args.full c.args.id above within are)
